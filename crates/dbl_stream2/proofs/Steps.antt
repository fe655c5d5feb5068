-- One more message.
use Rattle.std.proofs.Common.{◌≡◌, ◌⊎◌, ℕ, ℤ, Bool, true, false, cond, eqb, ltb, List, [], ◌∷◌, ◌++◌, length, refl, sym, ◌∙◌, ap, append_assoc, subst, inl, inr}
use Rattle.std.specs.Prelude.{Option, Some, None, is_some, option_to_list, option_map, ◌||◌, ◌&&◌}
use Rattle.std.specs.Ordering.{nat_cmp}
use Rattle.std.specs.BTreeMap.{get, is_at}
use Rattle.std.proofs.lemmas.Bool.{cases_Bool, eqb-true, and_parts, false_from_ne_true}
use Rattle.std.proofs.lemmas.List.{append-nil}
use Rattle.dbl_base.specs.declared.lsn.Lsn.{Lsn}
use Rattle.dbl_pgmsg.specs.declared.error.MsgError.{MsgError}
use Rattle.dbl_pgmsg.specs.declared.error.MsgError.TheVariants as bytes
use Rattle.dbl_pgmsg.specs.declared.messages.Message.{Message}
use Rattle.dbl_pgmsg.specs.declared.messages.Message.TheVariants as plain
use Rattle.dbl_stream2.specs.declared.messages.StreamMessage.{StreamMessage}
use Rattle.dbl_stream2.specs.declared.messages.StreamMessage.TheVariants.{Start, Stop, Commit, Abort, Plain, Carried}
use Rattle.dbl_stream2.specs.declared.error.StreamError.{StreamError}
use Rattle.dbl_stream2.specs.declared.error.StreamError.TheVariants as errors
use Rattle.dbl_stream2.specs.declared.error.StreamError.TheVariants.{NestedStream, NotStreaming, UnknownStream, PlainInside}
use Rattle.dbl_stream2_pending.specs.declared.pending.Pending.{Pending}
use Rattle.dbl_stream2.specs.declared.unstream.Unstream.{Unstream}
use Rattle.dbl_stream2.specs.Flat.{block_of, is_inside, is_begun, is_begun_after, bound_tag, has_block}
use Rattle.dbl_stream2.specs.Flat.{is_block_of, kept_messages, error_if, flat, stream_fault}
use Rattle.dbl_stream2.specs.Errors.{wrapped}
use Rattle.dbl_stream2.specs.Wire.{Encodes, IsBytesFault}
use Rattle.dbl_stream2_pending.specs.Buffers.{Item, remaining, buffer_in, aborts_in, buffer_or_empty, remaining_in}
use Rattle.dbl_stream2.specs.State.{buffer_of, aborts_of}
use Rattle.dbl_stream2.specs.State.{HasReceived, HasProcessed, IsStreamRefusal, in_bytes, HasTaken}
use Rattle.dbl_stream2.proofs.FlatLemmas.{same_left, lost, kept_is, empty}
use Rattle.dbl_stream2_pending.proofs.MapLemmas.{is_at-number}

abbrev stored : Bool → List (Item Message) → Option (List (Item Message))
stored has items = cond has (Some items) None

-- ---- what is stored of a transaction, before and after

keep_case : (h : Bool) (hs : List (Item Message)) → stored h hs ≡ stored h (hs ++ [])
keep_case h hs = ap (stored h) (sym (append-nil hs))

start_case : (b h : Bool) (hs : List (Item Message)) → (h ≡ false → hs ≡ [])
    → cond b (Some (buffer_or_empty (stored h hs))) (stored h hs) ≡ stored (b || h) (hs ++ [])
start_case true true hs none = keep_case true hs
start_case true false hs none = ap (λ (l : List (Item Message)). Some (l ++ [])) (sym (none refl))
start_case false h hs none = keep_case h hs

end_case : (b h : Bool) (hs : List (Item Message)) → cond b None (stored h hs) ≡ stored (cond b false h) (cond b [] (hs ++ []))
end_case true h hs = refl
end_case false h hs = keep_case h hs

whole_case : (b h : Bool) (hs : List (Item Message)) → cond b None (stored h hs) ≡ stored (cond (b && b) false h) (cond (b && b) [] (hs ++ []))
whole_case true h hs = refl
whole_case false h hs = keep_case h hs

whole_aborts : (b c : Bool) (n g : ℕ) → cond b 0 g ≡ cond (b && b) 0 (cond (b && c) n g)
whole_aborts true c n g = refl
whole_aborts false c n g = refl

part_case : (b h : Bool) (hs : List (Item Message)) → b ≡ false → stored h hs ≡ stored (cond b false h) (cond b [] (hs ++ []))
part_case true h hs un = absurd cc
part_case false h hs un = keep_case h hs

part_aborts : (b : Bool) (g : ℕ) → b ≡ false → g ≡ cond b 0 g
part_aborts true g un = absurd cc
part_aborts false g un = refl

push_case : (b h : Bool) (hs : List (Item Message)) (item : Item Message) → cond b (option_map (λ items. items ++ item ∷ []) (stored h hs)) (stored h hs)
    ≡ stored h (hs ++ option_to_list (cond b (Some item) None))
push_case true true hs item = refl
push_case true false hs item = refl
push_case false h hs item = keep_case h hs

buffer_all : (h : Bool) (hs : List (Item Message)) → (h ≡ false → hs ≡ []) → buffer_or_empty (stored h hs) ≡ hs
buffer_all true hs none = refl
buffer_all false hs none = sym (none refl)

some_items : (a b : List (Item Message)) → Some a ≡ Some b → a ≡ b
some_items a b e = cc

some_buffer : (h : Bool) (hs items : List (Item Message)) → Some items ≡ stored h hs → (h ≡ true) × (items ≡ hs)
some_buffer true hs items e = (refl, some_items items hs e)
some_buffer false hs items e = absurd cc

none_buffer : (h : Bool) (hs : List (Item Message)) → None ≡ stored h hs → h ≡ false
none_buffer true hs e = absurd cc
none_buffer false hs e = refl

removed_buffer : (b : Bool) (o : Option (Pending Message)) → buffer_in (cond b None o) ≡ cond b None (buffer_in o)
removed_buffer true o = refl
removed_buffer false o = refl

removed_aborts : (b : Bool) (y : ℕ) (o : Option (Pending Message)) → aborts_in y (cond b None o) ≡ cond b 0 (aborts_in y o)
removed_aborts true y o = refl
removed_aborts false y o = refl

-- two numbers that differ aren't both x
apart_at : (xid subxid x : ℕ) → (xid ≡ subxid → ⊥) → (eqb xid x && eqb subxid x) ≡ false
apart_at xid subxid x ne =
    false_from_ne_true (eqb xid x && eqb subxid x) (λ so. (let p = and_parts (eqb xid x) (eqb subxid x) so in ne (eqb-true xid x p.0
    ∙ sym (eqb-true subxid x p.1))))

same_item : (block x : ℕ) (m : Message) → cond {A = Option (Item Message)} (eqb block x) (Some (block, m)) None
    ≡ cond {A = Option (Item Message)} (eqb block x) (Some (x, m)) None
same_item block x m =
    let item : ℕ → Option (Item Message) = λ n. Some (n, m) in
    elim (cases_Bool (eqb block x)) [ inl is ↦ rw is (ap item (eqb-true block x is)) | inr un ↦ rw un refl ]

begun_same : (m : Message) (b : Bool) → bound_tag m ≡ None → b ≡ is_begun_after m b
begun_same (plain.Begin lsn time xid) b none = absurd cc
begun_same (plain.Commit flags lsn end_lsn time) b none = absurd cc
begun_same (plain.Origin lsn name) b none = refl
begun_same (plain.TypeName oid namespace name) b none = refl
begun_same (plain.Relation oid namespace name identity columns) b none = refl
begun_same (plain.Insert oid row) b none = refl
begun_same (plain.Update oid before row) b none = refl
begun_same (plain.Delete oid before) b none = refl
begun_same (plain.Truncate options oids) b none = refl
begun_same (plain.Logical flags lsn prefix content) b none = refl

plain_clean : (b : Bool) (o : Option ℕ) → o ≡ None → cond b (option_map (λ tag. PlainInside tag) o) None ≡ None
plain_clean true o none = ap (option_map (λ tag. PlainInside tag)) none
plain_clean false o none = refl

-- what is appended of a transaction that commits
pub appended : (flags xid : ℕ) (lsn end_lsn : Lsn) (passed time : ℤ) (old begun left all : List Message) (rest : List Message) → passed ≡ time
    → begun ≡ old ++ plain.Begin lsn passed xid ∷ [] → left ≡ begun ++ rest → all ≡ left ++ plain.Commit flags lsn end_lsn passed ∷ []
    → all ≡ old ++ (plain.Begin lsn time xid ∷ [] ++ rest ++ plain.Commit flags lsn end_lsn time ∷ [])
appended flags xid lsn end_lsn passed time old begun left all rest same first next last =
    let begin : List Message = plain.Begin lsn passed xid ∷ [] in
    let commit : List Message = plain.Commit flags lsn end_lsn passed ∷ [] in
    subst (λ (t : ℤ). all ≡ old ++ (plain.Begin lsn t xid ∷ [] ++ rest ++ plain.Commit flags lsn end_lsn t ∷ [])) same
    (last ∙ ap (λ (l : List Message). l ++ commit) (next ∙ ap (λ (l : List Message). l ++ rest) first)
    ∙ append_assoc (old ++ begin) rest commit ∙ append_assoc old begin (rest ++ commit))

-- ---- the steps

module _ (past : List StreamMessage) (u v : Unstream) (s : HasReceived past u) (out : List Message) where
  -- what is stored of each transaction stays
  pub record SamePending : Type 0 where
    pub buffer : (x : ℕ) → buffer_in (get nat_cmp v.pending x) ≡ buffer_in (get nat_cmp u.pending x)
    pub aborts : (x y : ℕ) → aborts_in y (get nat_cmp v.pending x) ≡ aborts_in y (get nat_cmp u.pending x)

  -- a block is opened
  pub started : (xid first : ℕ) → out ≡ [] → (is_inside past || is_begun past) ≡ false → v.block ≡ Some xid → v.begun ≡ u.begun
      → ((x : ℕ) → buffer_in (get nat_cmp v.pending x) ≡ cond (eqb xid x) (Some (buffer_or_empty (buffer_in (get nat_cmp u.pending x))))
      (buffer_in (get nat_cmp u.pending x)))
      → ((x y : ℕ) → aborts_in y (get nat_cmp v.pending x) ≡ aborts_in y (get nat_cmp u.pending x)) → HasProcessed past (Start xid first) out v
  started xid first none closed block begun buffer aborts =
      let clean : stream_fault past (Start xid first) ≡ None = ap (λ (b : Bool). error_if b NestedStream) closed in
      record {
        clean = clean;
        out_is = none;
        received = record {
          clean = (s.clean, clean);
          block = block;
          begun = begun ∙ s.begun;
          buffer = λ x. buffer x ∙ ap (λ (o : Option (List (Item Message))). cond (eqb xid x) (Some (buffer_or_empty o)) o) (s.buffer x)
              ∙ start_case (eqb xid x) (has_block x past) (buffer_of x past) (empty past s.clean x);
          aborts = λ x y. aborts x y ∙ s.aborts x y;
        };
      }

  -- a block is closed
  pub stopped : out ≡ [] → is_inside past ≡ true → v.block ≡ None → v.begun ≡ u.begun → SamePending → HasProcessed past Stop out v
  stopped none inside block begun same =
      let clean : stream_fault past Stop ≡ None = ap (λ (b : Bool). cond b None (Some NotStreaming)) inside in
      record {
        clean = clean;
        out_is = none;
        received = record {
          clean = (s.clean, clean);
          block = block;
          begun = begun ∙ s.begun;
          buffer = λ x. same.buffer x ∙ s.buffer x ∙ keep_case (has_block x past) (buffer_of x past);
          aborts = λ x y. same.aborts x y ∙ s.aborts x y;
        };
      }

  -- what is left of a transaction that is stored so
  pub left_is : (xid : ℕ) (p : Pending Message) → get nat_cmp u.pending xid ≡ Some p → remaining_in p ≡ kept_messages xid [] past
  left_is xid p found =
      let all : List (Item Message) = buffer_or_empty (buffer_in (Some p)) in
      let items : all ≡ buffer_of xid past = (some_buffer (has_block xid past) (buffer_of xid past) all (ap buffer_in (sym found) ∙ s.buffer xid)).1 in
      let counts : (y : ℕ) → aborts_in y (Some p) ≡ aborts_of xid y past = λ y. ap (aborts_in y) (sym found) ∙ s.aborts xid y in
      same_left (λ y i. ltb i (aborts_in y (Some p))) (lost xid [] past) 0 all (λ y k lt. ap (λ (g : ℕ). ltb k g) (counts y))
      ∙ ap (remaining (lost xid [] past) 0) items ∙ sym (kept_is xid [] past)

  -- a transaction is removed
  pub record Removes (xid : ℕ) : Type 0 where
    pub block : v.block ≡ u.block
    pub begun : v.begun ≡ u.begun
    pub removed : (x : ℕ) → get nat_cmp v.pending x ≡ cond (is_at (nat_cmp xid) x) None (get nat_cmp u.pending x)

  module _ (xid : ℕ) (removes : Removes xid) where
    buffer_without : (x : ℕ) → buffer_in (get nat_cmp v.pending x) ≡ cond (eqb xid x) None (stored (has_block x past) (buffer_of x past))
    buffer_without x =
        ap buffer_in (removes.removed x) ∙ removed_buffer (is_at (nat_cmp xid) x) (get nat_cmp u.pending x)
        ∙ ap (λ (b : Bool). cond b None (buffer_in (get nat_cmp u.pending x))) (is_at-number xid x) ∙ ap (cond (eqb xid x) None) (s.buffer x)

    aborts_without : (x y : ℕ) → aborts_in y (get nat_cmp v.pending x) ≡ cond (eqb xid x) 0 (aborts_of x y past)
    aborts_without x y =
        ap (aborts_in y) (removes.removed x) ∙ removed_aborts (is_at (nat_cmp xid) x) y (get nat_cmp u.pending x)
        ∙ ap (λ (b : Bool). cond b 0 (aborts_in y (get nat_cmp u.pending x))) (is_at-number xid x) ∙ ap (cond (eqb xid x) 0) (s.aborts x y)

    -- a streamed transaction commits
    committed_at : (flags : ℕ) (lsn end_lsn : Lsn) (time : ℤ) (p : Pending Message) → (is_inside past || is_begun past) ≡ false
        → get nat_cmp u.pending xid ≡ Some p
        → out ≡ plain.Begin lsn time xid ∷ [] ++ remaining_in p ++ plain.Commit flags lsn end_lsn time ∷ []
        → HasProcessed past (Commit xid flags lsn end_lsn time) out v
    committed_at flags lsn end_lsn time p closed found is =
        let all : List (Item Message) = buffer_or_empty (buffer_in (Some p)) in
        let has : has_block xid past ≡ true = (some_buffer (has_block xid past) (buffer_of xid past) all (ap buffer_in (sym found) ∙ s.buffer xid)).0 in
        let clean : stream_fault past (Commit xid flags lsn end_lsn time) ≡ None =
        ap (λ (b : Bool). cond b (Some NotStreaming) (cond (has_block xid past) None (Some (UnknownStream xid)))) closed
        ∙ ap (λ (b : Bool). cond b None (Some (UnknownStream xid))) has in
        record {
          clean = clean;
          out_is = is ∙ ap (λ (l : List Message). plain.Begin lsn time xid ∷ [] ++ l ++ plain.Commit flags lsn end_lsn time ∷ []) (left_is xid p found);
          received = record {
            clean = (s.clean, clean);
            block = removes.block ∙ s.block;
            begun = removes.begun ∙ s.begun;
            buffer = λ x. buffer_without x ∙ end_case (eqb xid x) (has_block x past) (buffer_of x past);
            aborts = aborts_without;
          };
        }

    pub committed : (flags : ℕ) (lsn end_lsn : Lsn) (passed time : ℤ) (p : Pending Message) → (is_inside past || is_begun past) ≡ false
        → get nat_cmp u.pending xid ≡ Some p → passed ≡ time
        → out ≡ plain.Begin lsn passed xid ∷ [] ++ remaining_in p
        ++ plain.Commit flags lsn end_lsn passed ∷ []
        → HasProcessed past (Commit xid flags lsn end_lsn time) out v
    committed flags lsn end_lsn passed time p closed found same is = subst (λ (t : ℤ). HasProcessed past (Commit xid flags lsn end_lsn t) out v) same
        (committed_at flags lsn end_lsn passed p closed found is)

    -- a streamed transaction is rolled back
    rolled_back : out ≡ [] → (is_inside past || is_begun past) ≡ false → HasProcessed past (Abort xid xid) out v
    rolled_back none closed =
        let clean : stream_fault past (Abort xid xid) ≡ None = ap (λ (b : Bool). error_if b NotStreaming) closed in
        record {
          clean = clean;
          out_is = none;
          received = record {
            clean = (s.clean, clean);
            block = removes.block ∙ s.block;
            begun = removes.begun ∙ s.begun;
            buffer = λ x. buffer_without x ∙ whole_case (eqb xid x) (has_block x past) (buffer_of x past);
            aborts = λ x y. aborts_without x y ∙ whole_aborts (eqb xid x) (eqb xid y) (length (buffer_of x past)) (aborts_of x y past);
          };
        }

    pub aborted_whole : (subxid : ℕ) → xid ≡ subxid → out ≡ [] → (is_inside past || is_begun past) ≡ false → HasProcessed past (Abort xid subxid) out v
    aborted_whole subxid same none closed = subst (λ (n : ℕ). HasProcessed past (Abort xid n) out v) same (rolled_back none closed)

  -- a subtransaction is rolled back
  pub aborted_part : (xid subxid : ℕ) → (xid ≡ subxid → ⊥) → out ≡ [] → (is_inside past || is_begun past) ≡ false → v.block ≡ u.block → v.begun ≡ u.begun
      → ((x : ℕ) → buffer_in (get nat_cmp v.pending x) ≡ buffer_in (get nat_cmp u.pending x))
      → ((x y : ℕ) → aborts_in y (get nat_cmp v.pending x) ≡ cond (eqb xid x && eqb subxid y) (length (buffer_or_empty (buffer_in (get nat_cmp u.pending x))))
      (aborts_in y (get nat_cmp u.pending x)))
      → HasProcessed past (Abort xid subxid) out v
  aborted_part xid subxid ne none closed block begun buffer aborts =
      let clean : stream_fault past (Abort xid subxid) ≡ None = ap (λ (b : Bool). error_if b NotStreaming) closed in
      let all_of : (x : ℕ) → buffer_or_empty (buffer_in (get nat_cmp u.pending x)) ≡ buffer_of x past =
      λ x. ap buffer_or_empty (s.buffer x) ∙ buffer_all (has_block x past) (buffer_of x past) (empty past s.clean x) in
      record {
        clean = clean;
        out_is = none;
        received = record {
          clean = (s.clean, clean);
          block = block ∙ s.block;
          begun = begun ∙ s.begun;
          buffer = λ x. buffer x ∙ s.buffer x ∙ part_case (eqb xid x && eqb subxid x) (has_block x past) (buffer_of x past) (apart_at xid subxid x ne);
          aborts = λ x y. aborts x y
              ∙ ap (λ (l : List (Item Message)). cond (eqb xid x && eqb subxid y) (length l) (aborts_in y (get nat_cmp u.pending x))) (all_of x)
              ∙ ap (cond (eqb xid x && eqb subxid y) (length (buffer_of x past))) (s.aborts x y)
              ∙ part_aborts (eqb xid x && eqb subxid x) (cond (eqb xid x && eqb subxid y) (length (buffer_of x past)) (aborts_of x y past))
              (apart_at xid subxid x ne);
        };
      }

  -- an item is buffered in the open block
  pub record Buffers (block : ℕ) (item : Item Message) : Type 0 where
    pub was : u.block ≡ Some block
    pub block_stays : v.block ≡ u.block
    pub begun : v.begun ≡ u.begun
    pub buffer : (x : ℕ) → buffer_in (get nat_cmp v.pending x) ≡ cond (eqb block x)
        (option_map (λ items. items ++ item ∷ []) (buffer_in (get nat_cmp u.pending x))) (buffer_in (get nat_cmp u.pending x))
    pub aborts : (x y : ℕ) → aborts_in y (get nat_cmp v.pending x) ≡ aborts_in y (get nat_cmp u.pending x)

  module _ (block : ℕ) (item : Item Message) (b : Buffers block item) where
    buffer_with : (x : ℕ) → buffer_in (get nat_cmp v.pending x) ≡ stored (has_block x past)
        (buffer_of x past ++ option_to_list (cond (eqb block x) (Some item) None))
    buffer_with x =
        b.buffer x ∙ ap (λ (o : Option (List (Item Message))). cond (eqb block x) (option_map (λ items. items ++ item ∷ []) o) o) (s.buffer x)
        ∙ push_case (eqb block x) (has_block x past) (buffer_of x past) item

    open_is : block_of past ≡ Some block
    open_is = sym s.block ∙ b.was

    -- from the open block to what is looked back to
    at_block : (x : ℕ) (made : Item Message) → cond (eqb block x) (Some item) None ≡ cond (eqb block x) (Some made) None
        → buffer_in (get nat_cmp v.pending x) ≡ stored (has_block x past)
        (buffer_of x past ++ option_to_list (cond (is_block_of x (block_of past)) (Some made) None))
    at_block x made same =
        buffer_with x ∙ ap (λ (o : Option (Item Message)). stored (has_block x past) (buffer_of x past ++ option_to_list o)) same
        ∙ ap (λ (o : Option ℕ). stored (has_block x past) (buffer_of x past ++ option_to_list (cond (is_block_of x o) (Some made) None))) (sym open_is)

  -- a message with an xid is buffered
  pub buffer_carried : (block xid : ℕ) (m : Message) → Buffers block (xid, m) → out ≡ [] → HasProcessed past (Carried xid m) out v
  buffer_carried block xid m b none = record {
    clean = refl;
    out_is = none;
    received = record {
      clean = (s.clean, refl);
      block = b.block_stays ∙ s.block;
      begun = b.begun ∙ s.begun;
      buffer = λ x. at_block block (xid, m) b x (xid, m) refl;
      aborts = λ x y. b.aborts x y ∙ s.aborts x y;
    };
  }

  -- an Origin is buffered
  pub buffer_plain : (block : ℕ) (m : Message) → Buffers block (block, m) → out ≡ [] → bound_tag m ≡ None → HasProcessed past (Plain m) out v
  buffer_plain block m b none unbound =
      let clean : stream_fault past (Plain m) ≡ None = plain_clean (is_inside past) (bound_tag m) unbound in
      let inside : is_inside past ≡ true = ap is_some (open_is block (block, m) b) in
      record {
        clean = clean;
        out_is = none ∙ ap (λ (i : Bool). cond i [] (m ∷ [])) (sym inside);
        received = record {
          clean = (s.clean, clean);
          block = b.block_stays ∙ s.block;
          begun = b.begun ∙ s.begun ∙ begun_same m (is_begun past) unbound;
          buffer = λ x. at_block block (block, m) b x (x, m) (same_item block x m);
          aborts = λ x y. b.aborts x y ∙ s.aborts x y;
        };
      }

  -- a message outside blocks
  buffer_outside : (x : ℕ) (item : Item Message) → u.block ≡ None → SamePending → buffer_in (get nat_cmp v.pending x) ≡ stored (has_block x past)
      (buffer_of x past ++ option_to_list (cond (is_block_of x (block_of past)) (Some item) None))
  buffer_outside x item was same =
      same.buffer x ∙ s.buffer x ∙ keep_case (has_block x past) (buffer_of x past)
      ∙ ap (λ (o : Option ℕ). stored (has_block x past) (buffer_of x past ++ option_to_list (cond (is_block_of x o) (Some item) None)))
      (sym (sym s.block ∙ was))

  pub passed : (m : Message) → out ≡ m ∷ [] → u.block ≡ None → v.block ≡ u.block → v.begun ≡ is_begun_after m u.begun → SamePending
      → HasProcessed past (Plain m) out v
  passed m is was block begun same =
      let outside : is_inside past ≡ false = ap is_some (sym s.block ∙ was) in
      let clean : stream_fault past (Plain m) ≡ None = ap (λ (i : Bool). cond i (option_map (λ tag. PlainInside tag) (bound_tag m)) None) outside in
      record {
        clean = clean;
        out_is = is ∙ ap (λ (i : Bool). cond i [] (m ∷ [])) (sym outside);
        received = record {
          clean = (s.clean, clean);
          block = block ∙ s.block;
          begun = begun ∙ ap (is_begun_after m) s.begun;
          buffer = λ x. buffer_outside x (x, m) was same;
          aborts = λ x y. same.aborts x y ∙ s.aborts x y;
        };
      }

  pub carried_outside : (xid : ℕ) (m : Message) → out ≡ [] → u.block ≡ None → v.block ≡ u.block → v.begun ≡ u.begun → SamePending
      → HasProcessed past (Carried xid m) out v
  carried_outside xid m none was block begun same = record {
    clean = refl;
    out_is = none;
    received = record {
      clean = (s.clean, refl);
      block = block ∙ s.block;
      begun = begun ∙ s.begun;
      buffer = λ x. buffer_outside x (xid, m) was same;
      aborts = λ x y. same.aborts x y ∙ s.aborts x y;
    };
  }

-- ---- refusals

-- a Stream Commit of a transaction that isn't stored
pub unknown : (past : List StreamMessage) (u : Unstream) (xid flags : ℕ) (lsn end_lsn : Lsn) (time : ℤ) → HasReceived past u
    → (is_inside past || is_begun past) ≡ false → get nat_cmp u.pending xid ≡ None
    → stream_fault past (Commit xid flags lsn end_lsn time) ≡ Some (UnknownStream xid)
unknown past u xid flags lsn end_lsn time s closed none =
    let has : has_block xid past ≡ false = none_buffer (has_block xid past) (buffer_of xid past) (ap buffer_in (sym none) ∙ s.buffer xid) in
    ap (λ (b : Bool). cond b (Some NotStreaming) (cond (has_block xid past) None (Some (UnknownStream xid)))) closed
    ∙ ap (λ (b : Bool). cond b None (Some (UnknownStream xid))) has

-- a Begin or a Commit in a block
pub bound_inside : (past : List StreamMessage) (u : Unstream) (block tag : ℕ) (m : Message) → HasReceived past u → u.block ≡ Some block → bound_tag m ≡ Some tag
    → stream_fault past (Plain m) ≡ Some (PlainInside tag)
bound_inside past u block tag m s was bound =
    ap (λ (i : Bool). cond i (option_map (λ tag. PlainInside tag) (bound_tag m)) None) (ap is_some (sym s.block ∙ was))
    ∙ ap (option_map (λ tag. PlainInside tag)) bound

-- ---- a message from its bytes

pub taken_so : (past : List StreamMessage) (bytes : List ℕ) (m : StreamMessage) (out : List Message) (u : Unstream) → Encodes (is_inside past) bytes m
    → HasProcessed past m out u → HasTaken past bytes out u
taken_so past bytes m out u encoded moved = record {
  message = m;
  encoded = encoded;
  clean = moved.clean;
  joined = ap (λ (l : List Message). flat past ++ l) (sym moved.out_is);
  received = moved.received;
}

wrapped_is : (m : MsgError) → (wrapped m ≡ errors.Memory) ⊎ (wrapped m ≡ errors.Message m)
wrapped_is bytes.Memory = inl refl
wrapped_is m = inr refl

-- the refusal of bytes that have a fault
pub refused_so : (past : List StreamMessage) (text : List ℕ) (m : MsgError) (e : StreamError) → e ≡ wrapped m
    → (m ≡ bytes.Memory) ⊎ IsBytesFault (is_inside past) text m → (e ≡ errors.Memory) ⊎ IsStreamRefusal past text e
refused_so past text m e is (inl memory) = inl (is ∙ ap wrapped memory)
refused_so past text m e is (inr fault) = elim (wrapped_is m) [ inl memory ↦ inl (is ∙ memory) | inr same ↦ inr (in_bytes m fault (is ∙ same)) ]
