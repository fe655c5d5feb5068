-- The rows that are ended after a change.
use Rattle.std.proofs.Common.{◌≡◌, ◌∙◌, ℕ, List, [], Bool, true, false, ◌&&◌, ◌||◌, Option, Some, None, option_map, cond, bytes_eq, not, ◌⊎◌, inl, inr, refl, sym, ap}
use Rattle.std.specs.Prelude.{unwrap_or}
use Rattle.std.proofs.lemmas.Map.Text.{is_eq-slice_cmp}
use Rattle.std.proofs.lemmas.Slice.Eq.{bytes_eq-Decides}
use Rattle.std.specs.List.{list_any}
use Rattle.std.specs.Map.{lookup}
use Rattle.std.specs.BTreeMap.{get, is_at, Updates}
use Rattle.std.specs.BTreeSet.{contains}
use Rattle.std.specs.BTreeSet as sets
use Rattle.dbl_base.specs.Texts.{text_cmp}
use Rattle.dbl_compact_ended.specs.declared.ended.EndedKeys.{EndedKeys}
use Rattle.dbl_compact_ended.specs.Ended.{EndedRows, has_key, has_row}

-- ---- one topic's keys

or_added : (all here before : Bool) → (all || cond here true before) ≡ (here || (all || before))
or_added true true before = refl
or_added true false before = refl
or_added false true before = refl
or_added false false before = refl

pub key_ended : (old new : EndedKeys) (key : List ℕ) → new.all ≡ old.all → sets.Updates text_cmp old.keys new.keys key true → (k : List ℕ)
    → has_key new k ≡ (bytes_eq key k || has_key old k)
key_ended old new key same updates k =
    ap (λ (all : Bool). all || contains text_cmp new.keys k) same
    ∙ ap (λ (there : Bool). old.all || there) (updates.0 k ∙ ap (λ (b : Bool). cond b true (contains text_cmp old.keys k)) (is_eq-slice_cmp key k))
    ∙ or_added old.all (bytes_eq key k) (contains text_cmp old.keys k)

-- ---- a topic's keys among those of all topics

abbrev in_keys : List ℕ → Option EndedKeys → Bool
in_keys k keys = unwrap_or (option_map (λ (found : EndedKeys). has_key found k) keys) false

either : (b : Bool) (k : List ℕ) (one other : Option EndedKeys) → in_keys k (cond b one other) ≡ cond b (in_keys k one) (in_keys k other)
either true k one other = refl
either false k one other = refl

-- at the topic itself what is said of it may be said of its other spelling
same_topic : (b : Bool) (topic t : List ℕ) (f : List ℕ → Bool) (rest : Bool) → bytes_eq topic t ≡ b → cond b (f topic) rest ≡ cond b (f t) rest
same_topic true topic t f rest e = ap f ((bytes_eq-Decides topic t).0 e)
same_topic false topic t f rest e = refl

rows_changed : (old new : EndedRows) (topic : List ℕ) (keys : EndedKeys) (f : List ℕ → Bool → Bool) → Updates text_cmp old new topic (Some keys)
    → ((k : List ℕ) → has_key keys k ≡ f k (has_row old topic k))
    → (t k : List ℕ) → has_row new t k ≡ cond (bytes_eq topic t) (f k (has_row old t k)) (has_row old t k)
rows_changed old new topic keys f updates changed t k =
    ap (in_keys k) (updates.0 t ∙ ap (λ (b : Bool). cond b (Some keys) (get text_cmp old t)) (is_eq-slice_cmp topic t))
    ∙ either (bytes_eq topic t) k (Some keys) (get text_cmp old t)
    ∙ ap (λ (there : Bool). cond (bytes_eq topic t) there (has_row old t k)) (changed k)
    ∙ same_topic (bytes_eq topic t) topic t (λ at. f k (has_row old at k)) (has_row old t k) refl

one_row : (b here before : Bool) → cond b (here || before) before ≡ ((b && here) || before)
one_row true here before = refl
one_row false here before = refl

-- a topic's keys have one more
pub row_ended : (old new : EndedRows) (topic key : List ℕ) (keys : EndedKeys) → Updates text_cmp old new topic (Some keys)
    → ((k : List ℕ) → has_key keys k ≡ (bytes_eq key k || has_row old topic k))
    → (t k : List ℕ) → has_row new t k ≡ ((bytes_eq topic t && bytes_eq key k) || has_row old t k)
row_ended old new topic key keys updates changed t k =
    rows_changed old new topic keys (λ at before. bytes_eq key at || before) updates changed t k ∙ one_row (bytes_eq topic t) (bytes_eq key k) (has_row old t k)

all_rows : (b before : Bool) → cond b true before ≡ (b || before)
all_rows true before = refl
all_rows false before = refl

-- a topic has all its rows ended
pub topic_ended : (old new : EndedRows) (topic : List ℕ) (keys : EndedKeys) → Updates text_cmp old new topic (Some keys) → keys.all ≡ true
    → (t k : List ℕ) → has_row new t k ≡ (bytes_eq topic t || has_row old t k)
topic_ended old new topic keys updates all t k =
    rows_changed old new topic keys (λ at before. true) updates (λ at. ap (λ (b : Bool). b || contains text_cmp keys.keys at) all) t k
    ∙ all_rows (bytes_eq topic t) (has_row old t k)

-- the keys of a topic that was found are those of its rows
pub keys_at : (ended : EndedRows) (topic : List ℕ) (keys : EndedKeys) → Some keys ≡ get text_cmp ended topic → (k : List ℕ)
    → has_key keys k ≡ has_row ended topic k
keys_at ended topic keys found k = ap (in_keys k) found

-- a topic that wasn't found has no row
pub no_row : (ended : EndedRows) (topic : List ℕ) → None ≡ get text_cmp ended topic → (k : List ℕ) → has_row ended topic k ≡ false
no_row ended topic absent k = sym (ap (in_keys k) absent)

-- the empty set has no key
pub no_key : (keys : EndedKeys) → keys.all ≡ false → sets.keys keys.keys ≡ [] → (k : List ℕ) → has_key keys k ≡ false
no_key keys some none k =
    ap (λ (all : Bool). all || contains text_cmp keys.keys k) some
    ∙ ap (λ (ks : List (List ℕ)). list_any (is_at (text_cmp k)) ks) none

-- the empty map has no row
pub none_ended : (ended : EndedRows) → ended.entries ≡ [] → (t k : List ℕ) → has_row ended t k ≡ false
none_ended ended none t k = ap (λ (es : List (List ℕ × EndedKeys)). in_keys k (lookup (is_at (text_cmp t)) es)) none

-- ---- what stays

nothing_more : (b before : Bool) → before ≡ ((b && false) || before)
nothing_more true before = refl
nothing_more false before = refl

-- a row that is ended already
already : (topics keys : Bool) (whole there : Bool) → (topics ≡ true → keys ≡ true → there ≡ true) → there ≡ ((topics && (whole && keys)) || there)
already false keys whole there same = refl
already true false true there same = refl
already true false false there same = refl
already true true false there same = refl
already true true true there same = same refl refl

pub ended_already : (ended : EndedRows) (topic key : List ℕ) (whole : Bool) → has_row ended topic key ≡ true
    → (t k : List ℕ) → has_row ended t k ≡ ((bytes_eq topic t && (whole && bytes_eq key k)) || has_row ended t k)
ended_already ended topic key whole is t k =
    already (bytes_eq topic t) (bytes_eq key k) whole (has_row ended t k)
    (λ topics keys.
    sym (ap (λ (at : List ℕ). has_row ended at k) ((bytes_eq-Decides topic t).0 topics))
    ∙ sym (ap (has_row ended topic) ((bytes_eq-Decides key k).0 keys)) ∙ is)

-- a row that is set in part
pub part_ended : (ended : EndedRows) (topic key : List ℕ) (whole : Bool) → whole ≡ false
    → (t k : List ℕ) → has_row ended t k ≡ ((bytes_eq topic t && (whole && bytes_eq key k)) || has_row ended t k)
part_ended ended topic key whole part t k =
    nothing_more (bytes_eq topic t) (has_row ended t k)
    ∙ ap (λ (b : Bool). (bytes_eq topic t && (b && bytes_eq key k)) || has_row ended t k) (sym part)

ended_or_part : (ended whole : Bool) → (not ended && whole) ≡ false → (ended ≡ true) ⊎ (whole ≡ false)
ended_or_part true whole is = inl refl
ended_or_part false whole is = inr is

-- a row that isn't ended by a record
pub row_stays : (ended : EndedRows) (topic key : List ℕ) (whole : Bool) → (not (has_row ended topic key) && whole) ≡ false
    → (t k : List ℕ) → has_row ended t k ≡ ((bytes_eq topic t && (whole && bytes_eq key k)) || has_row ended t k)
row_stays ended topic key whole is = elim (ended_or_part (has_row ended topic key) whole is) [
  | inl already ↦ ended_already ended topic key whole already
  | inr part ↦ part_ended ended topic key whole part
]

-- a row that is set whole
pub whole_ended : (old new : EndedRows) (topic key : List ℕ) (whole : Bool) → whole ≡ true
    → ((t k : List ℕ) → has_row new t k ≡ ((bytes_eq topic t && bytes_eq key k) || has_row old t k))
    → (t k : List ℕ) → has_row new t k ≡ ((bytes_eq topic t && (whole && bytes_eq key k)) || has_row old t k)
whole_ended old new topic key whole is changed t k =
    changed t k ∙ ap (λ (b : Bool). (bytes_eq topic t && (b && bytes_eq key k)) || has_row old t k) (sym is)
