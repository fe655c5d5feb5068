-- The members of an object in byte order of their names are those that are put into it one after another.
use Rattle.std.proofs.Common.{◌≡◌, ◌∙◌, ℕ, List, [], ◌∷◌, ◌++◌, Bool, true, false, length, Ordering, Less, Equal, Greater, nat_cmp, Bor, suc, refl, sym, ap, arith}
use Rattle.std.proofs.lemmas.Cmp.{nat_list_cmp_total}
use Rattle.std.specs.Prelude.{⊤}
use Rattle.std.specs.BTreeMap.{insert_entry}
use Rattle.std.specs.Cmp.Lexicographic.{slice_cmp}
use Rattle.std.specs.Ordering.{match_ordering, ordering_reverse}
use Rattle.json.specs.Token.{Token}
use Rattle.json.specs.Json as json
use Rattle.serde_json.specs.Data.{Data, Members, no_members, member, put}
use Rattle.serde_json.specs.Events.{members_len}
use Rattle.dbl_base.specs.Texts.{text_cmp}
use Rattle.dbl_consume.specs.Cells.{Cell, names_ascend_after, names_ascend, cells_data}
use Rattle.dbl_consume.specs.JsonValues.{put_all, data_of, data_members, data_at}

-- ---- members whose names ascend

-- the name precedes the names of the members
abbrev Precedes : List ℕ → Members → Type 0
Precedes name no_members = ⊤
Precedes name (member other d ms) = (text_cmp name other ≡ Less) × Precedes name ms

less_and : (o : Ordering) (b : Bool) → match_ordering o b false false ≡ true → (o ≡ Less) × (b ≡ true)
less_and Less b e = (refl, e)
less_and Equal b e = absurd (cc)
less_and Greater b e = absurd (cc)

precedes_later : (first previous : List ℕ) (ms : Members) → text_cmp first previous ≡ Less → names_ascend_after previous ms ≡ true → Precedes first ms
precedes_later first previous no_members less e = tt
precedes_later first previous (member name d ms) less e =
    let p = less_and (text_cmp previous name) (names_ascend_after name ms) e in
    let here : text_cmp first name ≡ Less = nat_list_cmp_total.trans first previous name less p.0 in
    (here, precedes_later first name ms here p.1)

precedes : (name : List ℕ) (ms : Members) → names_ascend_after name ms ≡ true → Precedes name ms
precedes name no_members e = tt
precedes name (member other d ms) e = let p = less_and (text_cmp name other) (names_ascend_after other ms) e in (p.0, precedes_later name other ms p.0 p.1)

put_later : (ms earlier : Members) (k : List ℕ) (d : Data) → Precedes k ms → put_all ms (member k d earlier) ≡ member k d (put_all ms earlier)
put_later no_members earlier k d h = refl
put_later (member l e ms) earlier k d h =
    let above : slice_cmp nat_cmp l k ≡ Greater = nat_list_cmp_total.antisymm l k ∙ ap ordering_reverse h.0 in
    rw above (put_later ms (put l e earlier) k d h.1)

put_after : (previous : List ℕ) (ms : Members) → names_ascend_after previous ms ≡ true → put_all ms no_members ≡ ms
put_after previous no_members e = refl
put_after previous (member name d ms) e =
    let p = less_and (text_cmp previous name) (names_ascend_after name ms) e in
    put_later ms no_members name d (precedes name ms p.1) ∙ ap (member name d) (put_after name ms p.1)

-- members that are in order stay as they are
pub put_ascending : (ms : Members) → names_ascend ms ≡ true → put_all ms no_members ≡ ms
put_ascending no_members e = refl
put_ascending (member name d ms) e = put_later ms no_members name d (precedes name ms e) ∙ ap (member name d) (put_after name ms e)

not_less : (o : Ordering) (b : Bool) → (o ≡ Less → ⊥) → match_ordering o b false false ≡ false
not_less Less b apart = absurd (apart refl)
not_less Equal b apart = refl
not_less Greater b apart = refl

-- one cell more ascends
pub ascends_on : (previous : List ℕ) (cells rest : List Cell) (cell : Cell) → cells ≡ cell ∷ rest → slice_cmp nat_cmp previous cell.0.now ≡ Less
    → names_ascend_after cell.0.now (cells_data rest) ≡ names_ascend_after previous (cells_data cells)
ascends_on previous cells rest cell here less =
    sym (ap (λ l. names_ascend_after previous (cells_data l)) here ∙ ap (λ o. match_ordering o (names_ascend_after cell.0.now (cells_data rest)) false false) less)

pub ascends_no_more : (previous : List ℕ) (cells rest : List Cell) (cell : Cell) → cells ≡ cell ∷ rest → (slice_cmp nat_cmp previous cell.0.now ≡ Less → ⊥)
    → false ≡ names_ascend_after previous (cells_data cells)
ascends_no_more previous cells rest cell here other =
    sym (ap (λ l. names_ascend_after previous (cells_data l)) here ∙ not_less (slice_cmp nat_cmp previous cell.0.now) (names_ascend_after cell.0.now (cells_data rest)) other)

-- ---- a map by name

-- names are ordered by their bytes
abbrev pub name_cmp : Bor (List ℕ) → Bor (List ℕ) → Ordering
name_cmp x y = slice_cmp nat_cmp x.now y.now

cells_match : (o : Ordering) (a b c : List Cell) → cells_data (match_ordering o a b c) ≡ match_ordering o (cells_data a) (cells_data b) (cells_data c)
cells_match Less a b c = refl
cells_match Equal a b c = refl
cells_match Greater a b c = refl

pub cells_data-insert_entry : (cells : List Cell) (name : Bor (List ℕ)) (part : List Token)
    → cells_data (insert_entry name_cmp cells name part) ≡ put name.now (data_at part) (cells_data cells)
cells_data-insert_entry [] name part = refl
cells_data-insert_entry (cell ∷ cells) name part = cells_match (slice_cmp nat_cmp name.now cell.0.now) _ _ _ ∙ rw (cells_data-insert_entry cells name part)

-- one more cell is put
pub one_put : (cells rest found now : List Cell) (cell : Cell) → cells ≡ cell ∷ rest → now ≡ insert_entry name_cmp found cell.0 cell.1
    → put_all (cells_data rest) (cells_data now) ≡ put_all (cells_data cells) (cells_data found)
one_put cells rest found now cell here is =
    ap (put_all (cells_data rest)) (ap cells_data is ∙ cells_data-insert_entry found cell.0 cell.1) ∙ sym (ap (λ l. put_all (cells_data l) (cells_data found)) here)

pub no_cells : (cells : List Cell) → length cells ≡ 0 → cells ≡ []
no_cells [] none = refl
no_cells (cell ∷ cells) none = absurd (omega arith)

-- ---- a list that grows at its end

abbrev pub cells_before : List Cell → Members → Members
cells_before [] rest = rest
cells_before (cell ∷ cells) rest = member cell.0.now (data_at cell.1) (cells_before cells rest)

pub cells_before-no_members : (cells : List Cell) → cells_before cells no_members ≡ cells_data cells
cells_before-no_members [] = refl
cells_before-no_members (cell ∷ cells) = ap (member cell.0.now (data_at cell.1)) (cells_before-no_members cells)

one_more_cell : (cells : List Cell) (cell : Cell) (rest : Members) → cells_before (cells ++ cell ∷ []) rest ≡ cells_before cells (member cell.0.now (data_at cell.1) rest)
one_more_cell [] cell rest = refl
one_more_cell (c ∷ cells) cell rest = ap (member c.0.now (data_at c.1)) (one_more_cell cells cell rest)

-- one more member of the text is listed
pub one_listed : (cells now : List Cell) (cell : Cell) (left rest : json.Members) (j : json.Json) → now ≡ cells ++ cell ∷ [] → left ≡ json.member cell.0.now j rest → data_at cell.1 ≡ data_of j
    → cells_before now (data_members rest) ≡ cells_before cells (data_members left)
one_listed cells now cell left rest j grown is value =
    ap (λ l. cells_before l (data_members rest)) grown ∙ one_more_cell cells cell (data_members rest)
    ∙ ap (λ d. cells_before cells (member cell.0.now d (data_members rest))) value ∙ sym (ap (λ l. cells_before cells (data_members l)) is)

pub members_len-cells_data : (cells : List Cell) → members_len (cells_data cells) ≡ length cells
members_len-cells_data [] = refl
members_len-cells_data (cell ∷ cells) = ap suc (members_len-cells_data cells)
