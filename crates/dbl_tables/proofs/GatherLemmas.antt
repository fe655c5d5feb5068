-- What the loops of a truncate gather, and what its plan answers.
use Rattle.std.proofs.Common.{◌≡◌, ◌∙◌, ◌⊎◌, ◌<◌, ◌≤◌, ◌+◌, ◌-◌, ◌^◌, inl, inr, ℕ, zero, suc, Bool, true, false, Option, Some, None, List, [], ◌∷◌, ◌++◌, cond, map, length, take, drop, get_or, refl, sym, ap, subst, arith}
use Rattle.std.specs.Prelude.{nat_eq, is_none, IsSome, if◌then◌else◌, option_map, replicate, Ok, Err, slice_get, bytes_eq}
use Rattle.std.specs.List.{AllByRecursion, AllZip, list_any}
use Rattle.std.specs.Ordering.{is_eq}
use Rattle.std.specs.BTreeMap.{get}
use Rattle.std.proofs.Math.ListN.{set}
use Rattle.std.proofs.lemmas.Bool.Decides.{Decides-eqb}
use Rattle.std.proofs.lemmas.List.{length-map, length-replicate}
use Rattle.std.proofs.lemmas.Option.{slice_get_within}
use Rattle.dbl_base.specs.Texts.{text_cmp}
use Rattle.dbl_pgmsg.specs.declared.messages.Message.{Message}
use Rattle.dbl_pgmsg.specs.Grammar.{Fits}
use Rattle.dbl_model_table.specs.declared.table.TableName.{TableName}
use Rattle.dbl_model_table.proofs.Lists.{same_text, any_here}
use Rattle.dbl_model_table.proofs.PartLemmas.{split_at_one}
use Rattle.dbl_tables_rows.specs.SourceLog.RawChanges.{raw_changes}
use Rattle.dbl_tables_rows.specs.SourceLog.Relations.{first_oid}
use Rattle.dbl_tables_rows.specs.declared.demo_table.DemoTable.{DemoTable}
use Rattle.dbl_tables_rows.specs.declared.error.StepError.{StepError}
use Rattle.dbl_tables_rows.specs.declared.error.StepError.TheVariants as errors
use Rattle.dbl_tables_rows.specs.Acts.{Accepted, is_open, messages_by}
use Rattle.dbl_tables_rows.specs.Acts.Accepted.{Did}
use Rattle.dbl_tables_rows.specs.Given.{SizeGrown, IsUtf8Change}
use Rattle.dbl_tables_rows.specs.Seen.{seen_rows}
use Rattle.dbl_tables_rows.specs.Sending.{log_tables, entry_size, entry_limit, truncate_message}
use Rattle.dbl_tables_rows.specs.Steps.{truncate_judged}
use Rattle.dbl_tables_rows.specs.Steps.Step.{Truncate}
use Rattle.dbl_tables_rows.specs.declared.held.HeldKey.{HeldKey}
use Rattle.dbl_tables_rows.specs.declared.rows.Rows.{Rows}
use Rattle.dbl_tables_rows.specs.Changing.{IsTruncated}
use Rattle.dbl_tables_rows.proofs.RowLemmas.{set_same, set_other, not_place}
use Rattle.dbl_tables_changes.specs.declared.sessions.Session.{Session}
use Rattle.dbl_tables.specs.declared.tables.Tables.{Tables}
use Rattle.dbl_tables.specs.declared.truncating.Cut.{Cut}
use Rattle.dbl_tables_changes.specs.Planned.{Blocks}
use Rattle.dbl_tables_changes.specs.AcceptedSteps.{IsSession, IsSessionAt, AreListed, AreListedBefore}
use Rattle.dbl_tables.specs.Stands.{Stands, IsAccepted, IsRefusedStep}
use Rattle.dbl_tables.specs.Truncates.{place_in, is_missing, PlacesOf, TruncatesAt, FindsFirst, TruncatesOne, TruncatesAll, IsCut}
use Rattle.dbl_tables.proofs.CutLemmas.{same_places, at_name, truncate_unknown, truncate_too_long, truncate_locked, truncate_accepted, truncate_free, all_there}
use Rattle.dbl_tables_changes.proofs.ExitLemmas.{unblocked}
use Rattle.dbl_tables.proofs.StoreLemmas.{comes}
use Rattle.dbl_tables.proofs.TruncateStands.{truncated}

-- ---- places

pub places_zip : (ts : List Rows) (names : List TableName) (places : List ℕ) (name : TableName) (place : ℕ) → AllZip (λ name place. place_in ts name ≡ Some place) names places → place_in ts name ≡ Some place
    → AllZip (λ name place. place_in ts name ≡ Some place) (names ++ name ∷ []) (places ++ place ∷ [])
places_zip ts [] [] name place all is = (is, tt)
places_zip ts [] (p ∷ places) name place all is = absurd all
places_zip ts (n ∷ names) [] name place all is = absurd all
places_zip ts (n ∷ names) (p ∷ places) name place all is = (all.0, places_zip ts names places name place all.1 is)

pub missing_there : (ts : List Rows) (names : List TableName) (i : ℕ) (name : TableName) → i < length names → name ≡ get_or names i name → place_in ts name ≡ None → is_missing ts names ≡ true
missing_there ts names i name less is none =
    ap (list_any (λ n. is_none (place_in ts n))) (split_at_one names i name name less is)
    ∙ any_here (λ n. is_none (place_in ts n)) (take i names) name (drop (i + 1) names) (ap is_none none)

pub low_at : (places : List ℕ) (i place d : ℕ) → AllByRecursion (λ p. p < 2 ^ 31) places → i < length places → place ≡ get_or places i d → place < 2 ^ 31
low_at [] i place d low less is = absurd (omega arith)
low_at (p ∷ places) zero place d low less is = subst (λ (n : ℕ). n < 2 ^ 31) (sym is) low.0
low_at (p ∷ places) (suc i) place d low less is = low_at places i place d low.1 (omega arith) is

-- the OIDs have 32 bits
pub low_oids : (places : List ℕ) → AllByRecursion (λ p. p < 2 ^ 31) places → AllByRecursion (λ oid. oid < 2 ^ 32) (map (λ place. first_oid + place) places)
low_oids [] low = tt
low_oids (p ∷ places) low = ((let one : p < 2 ^ 31 = low.0 in omega arith), low_oids places low.1)

-- ---- names for each place

not_nil : (xs : List (List ℕ)) (x : List ℕ) → [] ≡ xs ++ x ∷ [] → ⊥
not_nil [] x is = cc
not_nil (y ∷ xs) x is = cc

-- the last of names that are all the same
pub pop_same : (rest : List (List ℕ)) (n : ℕ) (name s : List ℕ) → replicate n s ≡ rest ++ name ∷ [] → (name ≡ s) × (rest ≡ replicate (n - 1) s)
pop_same [] zero name s is = cc
pop_same [] (suc zero) name s is = let e : s ≡ name = cc in (sym e, refl)
pop_same [] (suc (suc n)) name s is = cc
pop_same (x ∷ rest) zero name s is = cc
pop_same (x ∷ rest) (suc zero) name s is = let tail : [] ≡ rest ++ name ∷ [] = cc in absurd (not_nil rest name tail)
pop_same (x ∷ rest) (suc (suc n)) name s is =
    let head : s ≡ x = cc in
    let tail : replicate (suc n) s ≡ rest ++ name ∷ [] = cc in
    let more = pop_same rest (suc n) name s tail in
    (more.0, ap (λ (y : List ℕ). y ∷ rest) (sym head) ∙ (ap (λ (l : List (List ℕ)). s ∷ l) more.1 ∙ one_back n))
  where
    lower : (k : ℕ) → suc k - 1 ≡ k
    lower k = omega arith

    one_back : (k : ℕ) → s ∷ replicate (suc k - 1) s ≡ replicate (suc (suc k) - 1) s
    one_back k = ap (λ (m : ℕ). s ∷ replicate m s) (lower k) ∙ sym (ap (λ (m : ℕ). replicate m s) (lower (suc k)))

pub none_less : (n : ℕ) → n ≡ n - 0
none_less n = omega arith

pub one_less : (n i : ℕ) → (n - i) - 1 ≡ n - (i + 1)
one_less n i = omega arith

-- there is one where a place is left
pub one_left : (n i : ℕ) (s : List ℕ) (xs : List (List ℕ)) → xs ≡ replicate (n - i) s → length xs ≡ 0 → i < n → ⊥
one_left n i s xs is none less =
    let long : length xs ≡ n - i = ap length is ∙ length-replicate (n - i) s in
    omega arith

-- ---- tables

never : (o : Option Rows) (rows : Rows) → o ≡ None → o ≡ Some rows → ⊥
never o rows none is = let contra : None ≡ Some rows = sym none ∙ is in cc

pub truncates_at : (s : List ℕ) (place : ℕ) (old : List Rows) (was now : Rows) → slice_get old place ≡ Some was → IsTruncated s was now → TruncatesOne s place old (set old place now)
truncates_at s place old was now there cut = record {
  here = λ rows is. (now, set_same old place now was there, (let e : was ≡ rows = (let both : Some was ≡ Some rows = sym there ∙ is in cc) in subst (λ (r : Rows). IsTruncated s r now) e cut));
  others = λ other apart. set_other old place other now apart;
  back = λ none. absurd (never (slice_get old place) was none there);
}

pub truncates_past : (s : List ℕ) (place : ℕ) (old : List Rows) → slice_get old place ≡ None → TruncatesOne s place old old
truncates_past s place old none = record {
  here = λ rows is. absurd (never (slice_get old place) rows none is);
  others = λ other apart. refl;
  back = λ past. refl;
}

pub truncates_more : (s : List ℕ) (places : List ℕ) (place : ℕ) (old mid new : List Rows) → TruncatesAll s places old mid → TruncatesOne s place mid new → TruncatesAll s (places ++ place ∷ []) old new
truncates_more s [] place old mid new same one = (new, subst (λ (l : List Rows). TruncatesOne s place l new) same one, refl)
truncates_more s (p ∷ places) place old mid new all one = (all.0, all.1, truncates_more s places place all.0 mid new all.2 one)

-- they are the same tables
one_same : (s : List ℕ) (place : ℕ) (old new : List Rows) → TruncatesOne s place old new → map (λ (r : Rows). r.table) new ≡ map (λ (r : Rows). r.table) old
one_same s place old new one = same_places old new each
  where
    at_place : (o : Option Rows) → slice_get old place ≡ o → option_map (λ (r : Rows). r.table) (slice_get new place) ≡ option_map (λ (r : Rows). r.table) (slice_get old place)
    at_place None none = ap (λ (l : List Rows). option_map (λ (r : Rows). r.table) (slice_get l place)) (one.back none)
    at_place (Some was) is =
        let subsequent = one.here was is in
        ap (option_map (λ (r : Rows). r.table)) subsequent.1 ∙ (ap Some subsequent.2.table ∙ sym (ap (option_map (λ (r : Rows). r.table)) is))

    each : (p : ℕ) → option_map (λ (r : Rows). r.table) (slice_get new p) ≡ option_map (λ (r : Rows). r.table) (slice_get old p)
    each p = by (nat_eq p place) refl
      where
        by : (b : Bool) → nat_eq p place ≡ b → option_map (λ (r : Rows). r.table) (slice_get new p) ≡ option_map (λ (r : Rows). r.table) (slice_get old p)
        by true same = subst (λ (n : ℕ). option_map (λ (r : Rows). r.table) (slice_get new n) ≡ option_map (λ (r : Rows). r.table) (slice_get old n)) (sym ((Decides-eqb p place).0 same)) (at_place (slice_get old place) refl)
        by false other = ap (option_map (λ (r : Rows). r.table)) (one.others p (not_place p place other))

pub all_same : (s : List ℕ) (places : List ℕ) (old new : List Rows) → TruncatesAll s places old new → map (λ (r : Rows). r.table) new ≡ map (λ (r : Rows). r.table) old
all_same s [] old new same = ap (map (λ (r : Rows). r.table)) same
all_same s (p ∷ places) old new all = all_same s places all.0 new all.2 ∙ one_same s p old all.0 all.1

-- ---- a session whose change wasn't taken

pub stands_with : (tables : List DemoTable) (past : List Accepted) (s : List ℕ) (old new : Tables) (before after : Session) → Stands tables past old → get text_cmp old.sessions s ≡ Some before → new.tables.items ≡ old.tables.items
    → after.messages.items ≡ before.messages.items → after.size ≡ before.size → after.keys ≡ before.keys → ((q : List ℕ) → get text_cmp new.sessions q ≡ (if bytes_eq s q then Some after else get text_cmp old.sessions q)) → Stands tables past new
stands_with tables past s old new before after st has tables_stay messages size keys come = record {
  can = st.can;
  standing = st.standing;
  tables_are = ap (λ (l : List Rows). map (λ (r : Rows). r.table) l) tables_stay ∙ st.tables_are;
  sessions = λ name. subst (IsSessionAt past name) (sym (come name)) (at name (bytes_eq s name) refl);
  rows = λ place rows there. st.rows place rows (ap (λ (l : List Rows). slice_get l place) (sym tables_stay) ∙ there);
  listed = λ name x place rows had there. by name x place rows (bytes_eq s name) refl (sym (come name) ∙ had) (ap (λ (l : List Rows). slice_get l place) (sym tables_stay) ∙ there);
}
  where
    own : IsSession past s before → IsSession past s after
    own was = record {
      begun = was.begun;
      messages = messages ∙ was.messages;
      size = size ∙ was.size;
      fitting = subst (AllByRecursion Fits) (sym messages) was.fitting;
    }

    at : (name : List ℕ) (b : Bool) → bytes_eq s name ≡ b → IsSessionAt past name (if b then Some after else get text_cmp old.sessions name)
    at name true same = subst (λ (n : List ℕ). IsSession past n after) (same_text s name same) (own (subst (IsSessionAt past s) has (st.sessions s)))
    at name false other = st.sessions name

    by : (name : List ℕ) (x : Session) (p : ℕ) (r : Rows) (b : Bool) → bytes_eq s name ≡ b → (if b then Some after else get text_cmp old.sessions name) ≡ Some x → slice_get old.tables.items p ≡ Some r
        → AreListed p r.slots name x.keys.items × AreListedBefore p r.cleared name x.keys.items
    by name x p r true same had there =
        let e : after ≡ x = cc in
        let stay : before.keys ≡ x.keys = sym keys ∙ ap (λ (y : Session). y.keys) e in
        subst (λ (l : List HeldKey). AreListed p r.slots name l × AreListedBefore p r.cleared name l) (ap (λ k. k.items) stay)
        (subst (λ (n : List ℕ). AreListed p r.slots n before.keys.items × AreListedBefore p r.cleared n before.keys.items) (same_text s name same) (st.listed s before p r has there))
    by name x p r false other had there = st.listed name x p r had there

-- ---- what the plan answers

pub record IsOwn (past : List Accepted) (s : List ℕ) (x : Session) : Type 0 where
  pub size : x.size ≡ entry_size (messages_by s past)
  pub short : x.size ≤ entry_limit

pub its_session : (tables : List DemoTable) (past : List Accepted) (s : List ℕ) (store : Tables) → Stands tables past store → (x : Session) → Some x ≡ get text_cmp store.sessions s → IsOwn past s x
its_session tables past s store st x is =
    let own : IsSession past s x = subst (IsSessionAt past s) (sym is) (st.sessions s) in
    record { size = own.size; short = subst (λ (n : ℕ). n ≤ entry_limit) (sym own.size) (st.standing.orderly.sized s) }

module _ (tables : List DemoTable) (past : List Accepted) (s : List ℕ) (store : Tables) (st : Stands tables past store) (names : List TableName) where
  module _ (opened : is_open s past ≡ true) where
    pub cut_unknown : (e : StepError) → PlacesOf store.tables.items names (Err e) → (e ≡ errors.Memory) ⊎ (truncate_judged tables past s names ≡ Err e)
    cut_unknown e (inl memory) = inl memory
    cut_unknown e (inr told) = inr (truncate_unknown tables past s store st names opened told.1 ∙ ap (λ (x : StepError). Err x) (sym told.0))

    module _ (places : List ℕ) (all : AllZip (λ name place. place_in store.tables.items name ≡ Some place) names places) where
      pub low_places : AllByRecursion (λ p. p < 2 ^ 31) places
      low_places = each names places all
        where
          low : (name : TableName) (place : ℕ) → place_in store.tables.items name ≡ Some place → place < 2 ^ 31
          low name place is =
              let a = at_name tables past s store st name place is in
              let within : place < length store.tables.items = slice_get_within store.tables.items place a.0 a.1 in
              let few : length store.tables.items ≤ 64 = subst (λ (n : ℕ). n ≤ 64) (ap length (sym st.tables_are) ∙ length-map store.tables.items (λ (r : Rows). r.table)) st.can.few in
              let most : 64 < 2 ^ 31 = omega arith in
              omega arith

          each : (ns : List TableName) (ps : List ℕ) → AllZip (λ name place. place_in store.tables.items name ≡ Some place) ns ps → AllByRecursion (λ p. p < 2 ^ 31) ps
          each [] [] zip = tt
          each [] (p ∷ ps) zip = absurd zip
          each (n ∷ ns) [] zip = absurd zip
          each (n ∷ ns) (p ∷ ps) zip = (low n p zip.0, each ns ps zip.1)

      abbrev cut_message : Message
      cut_message = truncate_message (map (λ place. first_oid + place) places)

      module _ (message : Message) (at : TruncatesAt places message) where
        message_is : message ≡ cut_message
        message_is = at low_places

        pub utf8_cut : IsUtf8Change message
        utf8_cut = subst IsUtf8Change (sym message_is) (omega arith, low_oids places low_places)

        pub cut_too_long : SizeGrown (messages_by s past) message None → truncate_judged tables past s names ≡ Err errors.BadRow
        cut_too_long told = truncate_too_long tables past s store st names opened places all (subst (λ (m : Message). SizeGrown (messages_by s past) m None) message_is told)

        module _ (size : ℕ) (grown : SizeGrown (messages_by s past) message (Some size)) (first : Option (List ℕ)) (finds : FindsFirst s store.tables.items places first) where
          sized : SizeGrown (messages_by s past) cut_message (Some size)
          sized = subst (λ (m : Message). SizeGrown (messages_by s past) m (Some size)) message_is grown

          pub cut_locked : (e : StepError) → Blocks {A = Unit {0}} first (Err e) → (e ≡ errors.Memory) ⊎ (truncate_judged tables past s names ≡ Err e)
          cut_locked e told = by first refl told
            where
              by : (o : Option (List ℕ)) → first ≡ o → Blocks {A = Unit {0}} o (Err e) → (e ≡ errors.Memory) ⊎ (truncate_judged tables past s names ≡ Err e)
              by None is stops = absurd stops
              by (Some other) is (inl memory) = inl memory
              by (Some other) is (inr locked) = inr (truncate_locked tables past s store st names opened places all sized.0 first finds other is ∙ ap (λ (x : StepError). Err x) (sym locked))

          pub cut_planned : (u : Unit {0}) → Blocks {A = Unit {0}} first (Ok u) → (cut : Cut) → cut.message ≡ message → cut.size ≡ size → cut.places ≡ places → cut.names.items ≡ replicate (length places) s → IsCut tables past s names store.tables.items cut
          cut_planned u passes cut says takes at_places by =
              let none : first ≡ None = unblocked first u passes in
              let its : cut.message ≡ cut_message = says ∙ message_is in
              record {
                begun = opened;
                accepted = truncate_accepted tables past s store st names opened places all sized.0 first finds none ∙ ap (λ (m : Message). Ok (Did s m)) (sym its);
                fits = subst Fits (sym its) sized.3;
                size = takes ∙ (sized.1 ∙ ap (λ (m : Message). entry_size (messages_by s past ++ m ∷ [])) (sym its));
                message_is = its ∙ ap (λ (l : List ℕ). truncate_message (map (λ place. first_oid + place) l)) (sym at_places);
                there = subst (AllByRecursion (λ place. IsSome (slice_get store.tables.items place))) (sym at_places) (all_there tables past s store st names opened places all);
                by = by ∙ ap (λ (l : List ℕ). replicate (length l) s) (sym at_places);
                free = λ place r there among. truncate_free tables past s store st names opened places all sized.0 first finds none place r there (sym (ap (list_any (nat_eq place)) at_places) ∙ among);
              }

-- ---- what is left of it

module _ (tables : List DemoTable) (past : List Accepted) (s : List ℕ) (names : List TableName) (old new : Tables) (cut : Cut) (before after : Session) (st : Stands tables past old) (of : IsCut tables past s names old.tables.items cut)
    (has : Some before ≡ get text_cmp old.sessions s) (keys : after.keys ≡ before.keys) (updates : (q : List ℕ) → get text_cmp new.sessions q ≡ cond (is_eq (text_cmp s q)) (Some after) (get text_cmp old.sessions q)) where
  pub cut_refused : new.tables.items ≡ old.tables.items → after.messages.items ≡ before.messages.items → after.size ≡ before.size → IsRefusedStep tables past (Truncate s names) errors.Memory new
  cut_refused tables_stay messages size = record {
    why = inl refl;
    stands = stands_with tables past s old new before after st (sym has) tables_stay messages size keys (comes s (Some after) old new updates);
  }

  pub cut_taken : TruncatesAll s cut.places old.tables.items new.tables.items → after.messages.items ≡ before.messages.items ++ cut.message ∷ [] → after.size ≡ cut.size → IsAccepted tables past (Truncate s names) new
  cut_taken all messages size =
      truncated tables past s (Truncate s names) old new cut.message cut.places before after st (sym has) of.accepted of.fits (ap (raw_changes (log_tables tables) (seen_rows (log_tables tables) past s)) of.message_is) of.there all of.free messages (size ∙ of.size) keys
      (comes s (Some after) old new updates) (all_same s cut.places old.tables.items new.tables.items all)
