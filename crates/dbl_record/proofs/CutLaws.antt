-- The groups of records, joined, give the records, and a sink takes each of them.
use Rattle.std.proofs.Common.{◌≡◌, ℕ, zero, suc, ◌+◌, ◌≤◌, Bool, true, false, cond, ltb, List, [], ◌∷◌, ◌++◌, length, take, refl, sym, ap, subst, ◌∙◌, append_assoc, arith, inl, inr}
use Rattle.std.specs.Prelude.{◌||◌, not}
use Rattle.std.specs.List.{AllByRecursion}
use Rattle.std.proofs.lemmas.Bool.{ltb-false, ne_eqb}
use Rattle.std.proofs.lemmas.List.{append-nil, length-append}
use Rattle.dbl_record.specs.declared.record.Record.{Record}
use Rattle.dbl_record.specs.Groups.{group_form}
use Rattle.dbl_record.specs.Cuts.{IsHandful, ArePartedAt, stands_elsewhere, begins_batch, batches_after, cut, joined}

cut_joins : (group items : List Record) → joined (batches_after group items) ≡ group ++ items
cut_joins group [] = refl
cut_joins group (item ∷ items) =
    elim (begins_batch group item) as (λ b. joined (cond b (group ∷ batches_after (item ∷ []) items) (batches_after (group ++ item ∷ []) items)) ≡ group ++ item ∷ items) [
      | true ↦ ap (λ (rest : List Record). group ++ rest) (cut_joins (item ∷ []) items)
      | false ↦ cut_joins (group ++ item ∷ []) items ∙ append_assoc group (item ∷ []) items
    ]

pub cuts_join : (records : List Record) → joined (cut records) ≡ records
cuts_join [] = refl
cuts_join (item ∷ items) = cut_joins (item ∷ []) items

neither : (a b : Bool) → (a || b) ≡ false → (a ≡ false) × (b ≡ false)
neither true b e = absurd cc
neither false b e = (refl, e)

-- a group in which no new one begins at the record may have it too
goes_on : (group : List Record) (item : Record) → IsHandful group → begins_batch group item ≡ false → IsHandful (group ++ item ∷ [])
unfolding begins_batch
goes_on group item handful e =
    let elsewhere = stands_elsewhere group item in
    let many = ltb 1000 (length group + 1) in
    let large = ltb 16777216 (length (group_form (group ++ item ∷ []))) in
    let more = neither (elsewhere || many) large e in
    let less = neither elsewhere many more.0 in
    let few = ltb-false 1000 (length group + 1) less.1 in
    let small = ltb-false 16777216 (length (group_form (group ++ item ∷ []))) more.1 in
    record { some = omega (arith, length-append group (item ∷ [])); few = omega (arith, few, length-append group (item ∷ [])); small = inl small }

alone : (item : Record) → IsHandful (item ∷ [])
alone item = record { some = omega arith; few = omega arith; small = inr refl }

-- both ways on from a group
abbrev Ways : List Record → Record → List Record → Type 0
Ways group item items = AllByRecursion IsHandful (batches_after (item ∷ []) items) × (IsHandful (group ++ item ∷ []) → AllByRecursion IsHandful (batches_after (group ++ item ∷ []) items))

cut_if : (group : List Record) (item : Record) (items : List Record) → IsHandful group → Ways group item items → (b : Bool) → begins_batch group item ≡ b → AllByRecursion IsHandful (cond b (group ∷ batches_after (item ∷ []) items) (batches_after (group ++ item ∷ []) items))
cut_if group item items handful ways true e = (handful, ways.0)
cut_if group item items handful ways false e = ways.1 (goes_on group item handful e)

cut_is : (group items : List Record) → IsHandful group → AllByRecursion IsHandful (batches_after group items)
cut_is group [] handful = (handful, tt)
cut_is group (item ∷ items) handful = cut_if group item items handful (cut_is (item ∷ []) items (alone item), cut_is (group ++ item ∷ []) items) (begins_batch group item) refl

pub cuts_are_handfuls : (records : List Record) → AllByRecursion IsHandful (cut records)
cuts_are_handfuls [] = tt
cuts_are_handfuls (item ∷ items) = cut_is (item ∷ []) items (alone item)

-- ---- records are cut where their positions part

-- the last record alone decides
elsewhere_last : (group : List Record) (i : Record) (items : List Record) (y : Record) → stands_elsewhere (group ++ i ∷ items) y ≡ stands_elsewhere (i ∷ items) y
elsewhere_last [] i items y = refl
elsewhere_last (g ∷ []) i items y = refl
elsewhere_last (g ∷ (h ∷ group)) i items y = elsewhere_last (h ∷ group) i items y

begins_elsewhere : (group : List Record) (y : Record) → stands_elsewhere group y ≡ true → begins_batch group y ≡ true
unfolding begins_batch
begins_elsewhere group y e = rw e refl

-- one step of the cut, by whether a group begins
part_if : (group : List Record) (i : Record) (items : List Record) (y : Record) (ys : List Record)
    → batches_after (i ∷ []) (items ++ y ∷ ys) ≡ batches_after (i ∷ []) items ++ cut (y ∷ ys)
    → batches_after (group ++ i ∷ []) (items ++ y ∷ ys) ≡ batches_after (group ++ i ∷ []) items ++ cut (y ∷ ys)
    → (b : Bool) → cond b (group ∷ batches_after (i ∷ []) (items ++ y ∷ ys)) (batches_after (group ++ i ∷ []) (items ++ y ∷ ys)) ≡ cond b (group ∷ batches_after (i ∷ []) items) (batches_after (group ++ i ∷ []) items) ++ cut (y ∷ ys)
part_if group i items y ys new same true = ap (λ (gs : List (List Record)). group ∷ gs) new
part_if group i items y ys new same false = same

part_behind : (group items : List Record) (y : Record) (ys : List Record) → stands_elsewhere (group ++ items) y ≡ true → batches_after group (items ++ y ∷ ys) ≡ batches_after group items ++ cut (y ∷ ys)
part_behind group [] y ys e =
    let begins = begins_elsewhere group y (subst (λ (g : List Record). stands_elsewhere g y ≡ true) (append-nil group) e) in
    ap (λ (b : Bool). cond b (group ∷ batches_after (y ∷ []) ys) (batches_after (group ++ y ∷ []) ys)) begins
part_behind group (i ∷ items) y ys e =
    let last = sym (elsewhere_last group i items y) ∙ e in
    let whole = subst (λ (g : List Record). stands_elsewhere g y ≡ true) (sym (append_assoc group (i ∷ []) items)) e in
    part_if group i items y ys (part_behind (i ∷ []) items y ys last) (part_behind (group ++ i ∷ []) items y ys whole) (begins_batch group i)

parted_elsewhere : (x : Record) (xs : List Record) (y : Record) (ys : List Record) → ArePartedAt (x ∷ xs) (y ∷ ys) → stands_elsewhere (x ∷ xs) y ≡ true
parted_elsewhere x [] y ys parted = ap not (ne_eqb x.position y.position parted.0.0)
parted_elsewhere x (z ∷ xs) y ys parted = parted_elsewhere z xs y ys parted.1

pub cut_apart : (first others : List Record) → ArePartedAt first others → cut (first ++ others) ≡ cut first ++ cut others
cut_apart [] others parted = refl
cut_apart (x ∷ xs) [] parted = ap cut (append-nil (x ∷ xs)) ∙ sym (append-nil (cut (x ∷ xs)))
cut_apart (x ∷ xs) (y ∷ ys) parted = part_behind (x ∷ []) xs y ys (parted_elsewhere x xs y ys parted)

-- ---- a group of a cut of which some first records are left

-- no group begins at any of the items after the group
abbrev Together : List Record → List Record → Type 0
Together group [] = Unit {0}
Together group (item ∷ items) = (begins_batch group item ≡ false) × Together (group ++ item ∷ []) items

together_cut : (group more items : List Record) → Together group more → batches_after group (more ++ items) ≡ batches_after (group ++ more) items
together_cut group [] items t = ap (λ (g : List Record). batches_after g items) (sym (append-nil group))
together_cut group (item ∷ more) items t =
    ap (λ (b : Bool). cond b (group ∷ batches_after (item ∷ []) (more ++ items)) (batches_after (group ++ item ∷ []) (more ++ items))) t.0
    ∙ together_cut (group ++ item ∷ []) more items t.1
    ∙ ap (λ (g : List Record). batches_after g items) (append_assoc group (item ∷ []) more)

together_take : (group more : List Record) (n : ℕ) → Together group more → Together group (take n more)
together_take group [] zero t = tt
together_take group [] (suc n) t = tt
together_take group (item ∷ more) zero t = tt
together_take group (item ∷ more) (suc n) t = (t.0, together_take (group ++ item ∷ []) more n t.1)

together_push : (group more : List Record) (item : Record) → Together group more → begins_batch (group ++ more) item ≡ false → Together group (more ++ item ∷ [])
together_push group [] item t e = (subst (λ (g : List Record). begins_batch g item ≡ false) (append-nil group) e, tt)
together_push group (x ∷ more) item t e = (t.0, together_push (group ++ x ∷ []) more item t.1 (subst (λ (g : List Record). begins_batch g item ≡ false) (sym (append_assoc group (x ∷ []) more)) e))

-- what is left begins with this record, and is cut so
record Torn (start : Record) (groups : List (List Record)) (group : List Record) (n : ℕ) : Type 0 where
  rest : List Record
  begins : joined groups ++ take n group ≡ start ∷ rest
  is : batches_after (start ∷ []) rest ≡ groups ++ take n group ∷ []

no_cons : (groups later : List (List Record)) (group : List Record) → [] ≡ groups ++ group ∷ later → ⊥
no_cons [] later group e = cc
no_cons (g ∷ groups) later group e = cc

-- the first group is the torn one
torn_here : (start : Record) (more : List Record) (group : List Record) (n : ℕ) → Together (start ∷ []) more → start ∷ more ≡ group → 1 ≤ n → Torn start [] group n
torn_here start more group zero t e some = absurd (omega (arith, some))
torn_here start more group (suc n) t e some =
    let first : take (suc n) group ≡ start ∷ take n more = ap (λ (g : List Record). take (suc n) g) (sym e) in
    record {
      rest = take n more;
      begins = first;
      is = ap (λ (g : List Record). batches_after (start ∷ []) g) (sym (append-nil (take n more)))
          ∙ together_cut (start ∷ []) (take n more) [] (together_take (start ∷ []) more n t)
          ∙ ap (λ (g : List Record). g ∷ []) (sym first);
    }

-- the torn group is after the first one
torn_later : (start : Record) (more : List Record) (item : Record) (groups : List (List Record)) (group : List Record) (n : ℕ) (head : List Record) → Together (start ∷ []) more → begins_batch (start ∷ more) item ≡ true → start ∷ more ≡ head
    → Torn item groups group n → Torn start (head ∷ groups) group n
torn_later start more item groups group n head t begins e torn = record {
  rest = more ++ item ∷ torn.rest;
  begins = append_assoc head (joined groups) (take n group) ∙ ap (λ (g : List Record). head ++ g) torn.begins ∙ ap (λ (g : List Record). g ++ item ∷ torn.rest) (sym e);
  is = together_cut (start ∷ []) more (item ∷ torn.rest) t
      ∙ ap (λ (b : Bool). cond b ((start ∷ more) ∷ batches_after (item ∷ []) torn.rest) (batches_after ((start ∷ more) ++ item ∷ []) torn.rest)) begins
      ∙ ap (λ (g : List Record). g ∷ batches_after (item ∷ []) torn.rest) e
      ∙ ap (λ (gs : List (List Record)). head ∷ gs) torn.is;
}

-- both ways on from a group
abbrev Tears : Record → List Record → Record → List Record → ℕ → Type 0
Tears start more item items n =
    ((groups later : List (List Record)) (group : List Record) → batches_after (item ∷ []) items ≡ groups ++ group ∷ later → n ≤ length group → Torn item groups group n)
    × (Together (start ∷ []) (more ++ item ∷ []) → (groups later : List (List Record)) (group : List Record) → batches_after (start ∷ more ++ item ∷ []) items ≡ groups ++ group ∷ later → n ≤ length group → Torn start groups group n)

torn_if : (start : Record) (more : List Record) (item : Record) (items : List Record) (n : ℕ) → 1 ≤ n → Together (start ∷ []) more → Tears start more item items n → (b : Bool) → begins_batch (start ∷ more) item ≡ b
    → (groups later : List (List Record)) (group : List Record) → cond b ((start ∷ more) ∷ batches_after (item ∷ []) items) (batches_after (start ∷ more ++ item ∷ []) items) ≡ groups ++ group ∷ later → n ≤ length group → Torn start groups group n
torn_if start more item items n some t ways true begins [] later group e le = let same : start ∷ more ≡ group = cc in torn_here start more group n t same some
torn_if start more item items n some t ways true begins (head ∷ groups) later group e le =
    let same : start ∷ more ≡ head = cc in
    let others : batches_after (item ∷ []) items ≡ groups ++ group ∷ later = cc in
    torn_later start more item groups group n head t begins same (ways.0 groups later group others le)
torn_if start more item items n some t ways false begins groups later group e le = ways.1 (together_push (start ∷ []) more item t begins) groups later group e le

torn_behind : (start : Record) (more items : List Record) (n : ℕ) → 1 ≤ n → Together (start ∷ []) more → (groups later : List (List Record)) (group : List Record) → batches_after (start ∷ more) items ≡ groups ++ group ∷ later → n ≤ length group → Torn start groups group n
torn_behind start more [] n some t [] later group e le = let same : start ∷ more ≡ group = cc in torn_here start more group n t same some
torn_behind start more [] n some t (head ∷ groups) later group e le = let none : [] ≡ groups ++ group ∷ later = cc in absurd (no_cons groups later group none)
torn_behind start more (item ∷ items) n some t groups later group e le =
    torn_if start more item items n some t (torn_behind item [] items n some tt, torn_behind start (more ++ item ∷ []) items n some) (begins_batch (start ∷ more) item) refl groups later group e le

pub cut_torn : (records : List Record) (groups later : List (List Record)) (group : List Record) (n : ℕ) → cut records ≡ groups ++ group ∷ later → 1 ≤ n → n ≤ length group → cut (joined groups ++ take n group) ≡ groups ++ take n group ∷ []
cut_torn [] groups later group n e some le = absurd (no_cons groups later group e)
cut_torn (item ∷ items) groups later group n e some le =
    let torn = torn_behind item [] items n some tt groups later group e le in
    ap cut torn.begins ∙ torn.is
