-- The marks of a topic log's records, group by group from the last one to the first.
use Rattle.std.proofs.Common.{◌≡◌, ◌∙◌, ◌⊎◌, ℕ, zero, suc, ◌+◌, ◌-◌, ◌<◌, ◌≤◌, List, [], ◌∷◌, ◌++◌, Bool, true, false, ◌&&◌, Option, Some, None}
use Rattle.std.proofs.Common.{Result, Ok, Err, cond, length, map, take, drop, append-nil, append_assoc, refl, sym, ap, subst, inl, inr, arith}
use Rattle.std.specs.Prelude.{IsOk, MatchOption, is_ok, slice_get}
use Rattle.std.proofs.lemmas.List.{drop-drop, map-append}
use Rattle.dbl_record.specs.declared.record.Record.{Record}
use Rattle.dbl_record.specs.declared.acts.Act.{Act}
use Rattle.dbl_record.specs.declared.acts.ConsumeError.{ConsumeError}
use Rattle.dbl_record.specs.Acts.{act}
use Rattle.dbl_record.specs.Cuts.{joined}
use Rattle.dbl_record.specs.Line.{line_of}
use Rattle.dbl_record.specs.Reading.{as_line}
use Rattle.dbl_consume.specs.declared.kinds.Kind.{Kind}
use Rattle.dbl_consume.specs.Kinds.{kind_in}
use Rattle.dbl_compact.specs.Kept.{are_ending, is_kept, kept, kind_at, sets_unended}
use Rattle.dbl_compact.specs.Marks.{marks, marked}
use Rattle.dbl_compact.specs.Compactors.{HasRead, placeholder_of}
use Rattle.dbl_compact.proofs.MarkLemmas.{marked_are_kept}
use Rattle.dblog_stores.specs.declared.compacting.Marking.{Marking}
use Rattle.dblog_stores.specs.declared.error.CommandError.{CommandError}
use Rattle.dblog_stores.specs.declared.error.CommandError.TheVariants.{BadEntry}
use Rattle.dblog_stores.specs.declared.error.Store.TheVariants.{Topics}
use Rattle.dblog_stores.specs.Answers.{accepts, first_refused, first_refused_from, takes}
use Rattle.dblog_stores.specs.Compacting.{HasMarked, HasMarkedAll, HasMarkedPart, kept_lines, line_if, marked_lines}
use Rattle.dblog_stores.specs.Consuming.{IsFirstBadGroup}
use Rattle.dblog_stores.proofs.CrashState.{next_got, nothing_left}

-- ---- one record

accepted_is : (done : Result Act ConsumeError) → IsOk (kind_in done) → is_ok done ≡ true
accepted_is (Ok act) ok = refl
accepted_is (Err error) ok = absurd (let contra : false ≡ true = ok in cc)

refused_is : (done : Result Act ConsumeError) (error : ConsumeError) → kind_in done ≡ Err error → is_ok done ≡ false
refused_is (Ok act) error is = absurd (let e = is in cc)
refused_is (Err other) error is = refl

module _ (placeholder : List ℕ) (number : ℕ) (item : Record) (part : List Record) (groups : List (List Record)) (old new : Marking)
    (so_far : HasMarkedPart placeholder number part groups old) (same : placeholder_of new.compactor ≡ placeholder_of old.compactor)
    (read : HasRead (item ∷ (part ++ joined groups)) new.compactor) where
  pub part_marked : (mark : Bool) → mark ≡ is_kept (placeholder_of old.compactor) item (part ++ joined groups) → new.marks ≡ mark ∷ old.marks
      → new.refused ≡ old.refused → IsOk (kind_at (placeholder_of old.compactor) item) → HasMarkedPart placeholder number (item ∷ part) groups new
  part_marked mark is pushed stays ok = record {
    same = same ∙ so_far.same;
    read = read;
    marks_are =
        pushed ∙ ap (λ (rest : List Bool). mark ∷ rest) so_far.marks_are
        ∙ ap (λ (b : Bool). b ∷ marks placeholder (part ++ joined groups)) (is ∙ ap (λ (p : List ℕ). is_kept p item (part ++ joined groups)) so_far.same);
    refuses =
        stays ∙ so_far.refuses
        ∙ sym (ap (λ (b : Bool). cond (b && takes placeholder part) (first_refused_from (number + 1) placeholder groups) (Some number))
        (accepted_is (act placeholder (as_line item)) (subst (λ (p : List ℕ). IsOk (kind_at p item)) so_far.same ok)));
  }

  pub part_refused : (error : ConsumeError) → new.marks ≡ false ∷ old.marks → new.refused ≡ Some number
      → kind_at (placeholder_of old.compactor) item ≡ Err error → HasMarkedPart placeholder number (item ∷ part) groups new
  part_refused error pushed stays is =
      let bad : kind_at placeholder item ≡ Err error = subst (λ (p : List ℕ). kind_at p item ≡ Err error) so_far.same is in
      record {
        same = same ∙ so_far.same;
        read = read;
        marks_are =
            pushed ∙ ap (λ (rest : List Bool). false ∷ rest) so_far.marks_are
            ∙ ap (λ (b : Bool). b ∷ marks placeholder (part ++ joined groups))
            (sym (ap (λ (k : Result Kind ConsumeError). sets_unended k (are_ending placeholder (part ++ joined groups) item.topic)) bad));
        refuses =
            stays
            ∙ sym (ap (λ (b : Bool). cond (b && takes placeholder part) (first_refused_from (number + 1) placeholder groups) (Some number))
            (refused_is (act placeholder (as_line item)) error bad));
      }

-- ---- one group

pub part_begins : (placeholder : List ℕ) (number : ℕ) (groups : List (List Record)) (marking : Marking) → HasMarked placeholder (number + 1) groups marking
    → HasMarkedPart placeholder number [] groups marking
part_begins placeholder number groups marking all = record { same = all.same; read = all.read; marks_are = all.marks_are; refuses = all.refuses }

pub part_ends : (placeholder : List ℕ) (number : ℕ) (group : List Record) (groups : List (List Record)) (marking : Marking)
    → HasMarkedPart placeholder number group groups marking → HasMarked placeholder number (group ∷ groups) marking
part_ends placeholder number group groups marking part = record { same = part.same; read = part.read; marks_are = part.marks_are; refuses = part.refuses }

-- the records from the one before an index on
pub part_before : (placeholder : List ℕ) (number : ℕ) (group : List Record) (index : ℕ) (item : Record) (groups : List (List Record)) (marking : Marking)
    → 0 < index → slice_get group (index - 1) ≡ Some item → HasMarkedPart placeholder number (item ∷ drop index group) groups marking
    → HasMarkedPart placeholder number (drop (index - 1) group) groups marking
part_before placeholder number group index item groups marking some there part =
    let next : (index - 1) + 1 ≡ index = omega arith in
    subst (λ (items : List Record). HasMarkedPart placeholder number items groups marking)
    (sym (next_got group (index - 1) item there ∙ ap (λ (at : ℕ). item ∷ drop at group) next)) part

-- the groups from the one before a number on
pub group_before : (placeholder : List ℕ) (groups : List (List Record)) (number : ℕ) (group : List Record) (old new : Marking) → 0 < number
    → slice_get groups (number - 1) ≡ Some group → HasMarked placeholder number (drop number groups) old
    → (HasMarked placeholder ((number - 1) + 1) (drop number groups) old → HasMarked placeholder (number - 1) (group ∷ drop number groups) new)
    → HasMarked placeholder (number - 1) (drop (number - 1) groups) new
group_before placeholder groups number group old new some there all goes_on =
    let next : (number - 1) + 1 ≡ number = omega arith in
    subst (λ (gs : List (List Record)). HasMarked placeholder (number - 1) gs new)
    (sym (next_got groups (number - 1) group there ∙ ap (λ (at : ℕ). group ∷ drop at groups) next))
    (goes_on (subst (λ (at : ℕ). HasMarked placeholder at (drop number groups) old) (sym next) all))

-- ---- all groups

pub all_marked : (placeholder : List ℕ) (groups : List (List Record)) (marking : Marking) → HasMarked placeholder 0 groups marking → marking.refused ≡ None
    → HasMarkedAll placeholder groups marking.marks
all_marked placeholder groups marking all none = record { none = sym all.refuses ∙ none; marks_are = all.marks_are }

pub one_refused : (placeholder : List ℕ) (groups : List (List Record)) (marking : Marking) (index : ℕ) → HasMarked placeholder 0 groups marking
    → marking.refused ≡ Some index → IsFirstBadGroup placeholder groups (BadEntry Topics index)
one_refused placeholder groups marking index all is = record { index = index; first = sym all.refuses ∙ is; error_is = refl }

-- ---- the lines of marked records

pub marked_end : (found : List Bool) → marked found [] ≡ []
marked_end [] = refl
marked_end (mark ∷ rest) = refl

no_drop : (n : ℕ) → drop {A = Bool} n [] ≡ []
no_drop zero = refl
no_drop (suc n) = refl

marked-append : (found : List Bool) (items more : List Record) → marked found (items ++ more) ≡ marked found items ++ marked (drop (length items) found) more
marked-append [] items more = sym (ap (λ (found : List Bool). marked found more) (no_drop (length items)))
marked-append (mark ∷ rest) [] more = refl
marked-append (true ∷ rest) (item ∷ items) more = ap (λ (left : List Record). item ∷ left) (marked-append rest items more)
marked-append (false ∷ rest) (item ∷ items) more = marked-append rest items more

-- the lines of a group, and those of the groups after it
pub group_lines : (found left : List Bool) (groups : List (List Record)) (number : ℕ) (group : List Record) → left ≡ drop (length group) found
    → slice_get groups number ≡ Some group
    → marked_lines found (drop number groups) ≡ map line_of (marked found group) ++ marked_lines left (drop (number + 1) groups)
group_lines found left groups number group is there =
    ap (marked_lines found) (next_got groups number group there)
    ∙ ap (map line_of) (marked-append found group (joined (drop (number + 1) groups)))
    ∙ map-append line_of (marked found group) (marked (drop (length group) found) (joined (drop (number + 1) groups)))
    ∙ ap (λ (rest : List Bool). map line_of (marked found group) ++ marked_lines rest (drop (number + 1) groups)) (sym is)

pub no_more_lines : (found : List Bool) (groups : List (List Record)) (number : ℕ) → length groups ≤ number → marked_lines found (drop number groups) ≡ []
no_more_lines found groups number end = ap (marked_lines found) (nothing_left groups number end) ∙ ap (map line_of) (marked_end found)

-- a mark was taken
abbrev pub IsPopped : Option Bool → List Bool → List Bool → Type 0
IsPopped mark old new = MatchOption mark ((old ≡ []) × (new ≡ [])) (λ b. old ≡ b ∷ new)

pub marks_after : (mark : Option Bool) (old new found : List Bool) (i : ℕ) → IsPopped mark old new → old ≡ drop i found → new ≡ drop (i + 1) found
marks_after None old new found i popped is =
    popped.1 ∙ sym (ap (λ (bs : List Bool). drop 1 bs) (sym is ∙ popped.0)) ∙ drop-drop 1 i found
marks_after (Some b) old new found i popped is = ap (λ (bs : List Bool). drop 1 bs) (sym popped ∙ is) ∙ drop-drop 1 i found

-- the line of a record, and those of the records after it
pub record_lines : (mark : Option Bool) (old new : List Bool) (item : Record) (items : List Record) → IsPopped mark old new
    → map line_of (marked old (item ∷ items)) ≡ line_if mark item ++ map line_of (marked new items)
record_lines None old new item items popped =
    ap (λ (found : List Bool). map line_of (marked found (item ∷ items))) popped.0 ∙ sym (ap (λ (found : List Bool). map line_of (marked found items)) popped.1)
record_lines (Some true) old new item items popped = ap (λ (found : List Bool). map line_of (marked found (item ∷ items))) popped
record_lines (Some false) old new item items popped = ap (λ (found : List Bool). map line_of (marked found (item ∷ items))) popped

-- the marked lines are the kept ones
pub lines_kept : (placeholder : List ℕ) (groups : List (List Record)) (found : List Bool) → HasMarkedAll placeholder groups found
    → marked_lines found groups ≡ kept_lines placeholder groups
lines_kept placeholder groups found all =
    ap (λ (bs : List Bool). marked_lines bs groups) all.marks_are ∙ ap (map line_of) (marked_are_kept placeholder (joined groups))
