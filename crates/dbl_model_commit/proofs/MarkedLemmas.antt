-- An accepted transaction that has a watermark states no change.
use Rattle.std.proofs.Common.{◌≡◌, ◌∙◌, ℕ, List, [], ◌∷◌, ◌++◌, refl, sym, ap, append-nil}
use Rattle.std.specs.Prelude.{Bool, true, false, not, ◌&&◌, ◌||◌, if◌then◌else◌, Option, Some, None, is_some, IsSome, Result, Ok, Err}
use Rattle.std.specs.List.{list_any}
use Rattle.dbl_base.specs.declared.lsn.Lsn.{Lsn}
use Rattle.dbl_pgmsg.specs.declared.messages.Message.{Message}
use Rattle.dbl_pgmsg.specs.declared.messages.Message.TheVariants as says
use Rattle.dbl_model_table.specs.declared.table.TableInfo.{TableInfo}
use Rattle.dbl_model_table.specs.declared.change.Change.{Change}
use Rattle.dbl_model_commit.specs.declared.message_parts.Relation.{Relation}
use Rattle.dbl_model_commit.specs.declared.message_parts.RowChange.{RowChange}
use Rattle.dbl_model_commit.specs.declared.message_parts.RowChange.TheVariants as row
use Rattle.dbl_model_commit.specs.declared.message_parts.Target.{Target}
use Rattle.dbl_model_commit.specs.declared.message_parts.Target.TheVariants.{Watermark}
use Rattle.dbl_model_commit.specs.declared.txn_error.TxnError.{TxnError}
use Rattle.dbl_model_commit.specs.declared.txn_error.TxnError.TheVariants as errors
use Rattle.dbl_model_table.specs.Tables.{is_watermark}
use Rattle.dbl_model_table.specs.Infos.{number_of}
use Rattle.dbl_model_commit.specs.Past.{relation_of, begin_of, mark_in, mark_by, open_mark}
use Rattle.dbl_model_commit.specs.Tuples.{◌>>=◌, refuse_if, some_or}
use Rattle.dbl_model_commit.specs.Stated.{captured_at, target, has_some, row_stated, targets_at, is_the_watermark, clears, truncate_stated, stated, ok_or_none, open_changes, err_of, first_of, place_fault, own_fault}
use Rattle.dbl_model_commit.specs.Blocks.{AreWithoutFault}

pub was_ok : {A : Type 0} (r : Result (List A) TxnError) → err_of r ≡ None → r ≡ Ok (ok_or_none r)
was_ok (Ok cs) none = refl
was_ok (Err e) none = cc

pub first_none : (a b : Option TxnError) → first_of a b ≡ None → (a ≡ None) × (b ≡ None)
first_none (Some e) b none = cc
first_none None b none = (refl, none)

none_there : {A : Type 0} (xs : List A) → has_some xs ≡ false → xs ≡ []
none_there [] none = refl
none_there (x ∷ xs) none = cc

-- what is left of a transaction with a watermark: nothing but changes of tables that aren't captured
target_bare : (infos : List TableInfo) (mark : Option (List ℕ)) (so_far cs : List Change) (r : Relation) (change : RowChange) (o : Option ℕ) → (IsSome mark → so_far ≡ []) → IsSome mark
    → row_stated infos mark (has_some so_far) r change (captured_at o) ≡ Ok cs → so_far ++ cs ≡ []
unfolding row_stated
target_bare infos None so_far cs r change o bare some is = cc
target_bare infos (Some v) so_far cs r change None bare some is = let e : [] ≡ cs = cc in ap (λ (l : List Change). l ++ cs) (bare refl) ∙ sym e
target_bare infos (Some v) so_far cs r change (Some table) bare some is = cc

name_bare : (infos : List TableInfo) (mark : Option (List ℕ)) (so_far cs : List Change) (r : Relation) (change : RowChange) (t : Bool) → (IsSome mark → so_far ≡ [])
    → row_stated infos mark (has_some so_far) r change (if t then Watermark else captured_at (number_of infos r.name)) ≡ Ok cs → IsSome (if t then mark_in change else mark) → so_far ++ cs ≡ []
unfolding row_stated
name_bare infos mark so_far cs r change false bare is some = target_bare infos mark so_far cs r change (number_of infos r.name) bare some is
name_bare infos mark so_far cs r change true bare is some = by (is_some (mark_in change)) (is_some mark) so_far is
  where
    by : (a b : Bool) (l : List Change) → (if a && not b && not (has_some l) then Ok [] else Err errors.BadMark) ≡ Ok cs → l ++ cs ≡ []
    by true false [] told = let e : [] ≡ cs = cc in sym e
    by true false (c ∷ l) told = cc
    by true true l told = cc
    by false b l told = cc

row_bare : (infos : List TableInfo) (o : Option Relation) (oid : ℕ) (mark : Option (List ℕ)) (so_far cs : List Change) (change : RowChange) → (IsSome mark → so_far ≡ [])
    → (some_or o (errors.UnknownRelation oid) >>= λ (r : Relation). row_stated infos mark (has_some so_far) r change (target infos r.name)) ≡ Ok cs → IsSome (mark_by o change mark) → so_far ++ cs ≡ []
row_bare infos None oid mark so_far cs change bare is some = cc
row_bare infos (Some r) oid mark so_far cs change bare is some = name_bare infos mark so_far cs r change (is_watermark r.name) bare is some

truncate_bare : (read : Result (List Target) TxnError) (marked : Bool) (cs : List Change) → marked ≡ true → (read >>= truncate_stated marked) ≡ Ok cs → cs ≡ []
unfolding truncate_stated
truncate_bare (Err e) marked cs is told = cc
truncate_bare (Ok targets) false cs is told = cc
truncate_bare (Ok targets) true cs is told = by (list_any is_the_watermark targets) (clears targets) told
  where
    by : (w : Bool) (l : List Change) → (refuse_if (w || true && has_some l) errors.BadMark >>= λ u. Ok l) ≡ Ok cs → cs ≡ []
    by true l said = cc
    by false [] said = let e : [] ≡ cs = cc in sym e
    by false (c ∷ l) said = cc

said : (infos : List TableInfo) (after : Lsn) (m : Message) (ms : List Message) → own_fault infos after m ms ≡ None → own_fault infos after m ms ≡ err_of (stated infos m ms) → stated infos m ms ≡ Ok (ok_or_none (stated infos m ms))
said infos after m ms none is = was_ok (stated infos m ms) (sym is ∙ none)

pub marked_bare : (infos : List TableInfo) (after : Lsn) (ms : List Message) → AreWithoutFault infos after ms → IsSome (open_mark ms) → open_changes infos ms ≡ []
marked_bare infos after [] fine some = cc
marked_bare infos after (says.Begin lsn time xid ∷ ms) fine some = cc
marked_bare infos after (says.Commit flags lsn end_lsn time ∷ ms) fine some = append-nil (open_changes infos ms) ∙ marked_bare infos after ms fine.1 some
marked_bare infos after (says.Origin l n ∷ ms) fine some = append-nil (open_changes infos ms) ∙ marked_bare infos after ms fine.1 some
marked_bare infos after (says.TypeName o n m ∷ ms) fine some = append-nil (open_changes infos ms) ∙ marked_bare infos after ms fine.1 some
marked_bare infos after (says.Relation o n m i c ∷ ms) fine some = append-nil (open_changes infos ms) ∙ marked_bare infos after ms fine.1 some
marked_bare infos after (says.Logical f l p c ∷ ms) fine some = append-nil (open_changes infos ms) ∙ marked_bare infos after ms fine.1 some
marked_bare infos after (says.Truncate options oids ∷ ms) fine some =
    let m : Message = says.Truncate options oids in
    let none = first_none (place_fault m (is_some (begin_of ms))) (own_fault infos after m ms) fine.0 in
    let nothing : ok_or_none (stated infos m ms) ≡ [] = truncate_bare (targets_at infos oids ms) (is_some (open_mark ms)) (ok_or_none (stated infos m ms)) some (said infos after m ms none.1 refl) in
    ap (λ (l : List Change). open_changes infos ms ++ l) nothing ∙ (append-nil (open_changes infos ms) ∙ marked_bare infos after ms fine.1 some)
marked_bare infos after (says.Insert oid new ∷ ms) fine some =
    let m : Message = says.Insert oid new in
    let none = first_none (place_fault m (is_some (begin_of ms))) (own_fault infos after m ms) fine.0 in
    row_bare infos (relation_of oid ms) oid (open_mark ms) (open_changes infos ms) (ok_or_none (stated infos m ms)) (row.Insert new) (marked_bare infos after ms fine.1) (said infos after m ms none.1 refl) some
marked_bare infos after (says.Update oid before new ∷ ms) fine some =
    let m : Message = says.Update oid before new in
    let none = first_none (place_fault m (is_some (begin_of ms))) (own_fault infos after m ms) fine.0 in
    row_bare infos (relation_of oid ms) oid (open_mark ms) (open_changes infos ms) (ok_or_none (stated infos m ms)) (row.Update before new) (marked_bare infos after ms fine.1) (said infos after m ms none.1 refl) some
marked_bare infos after (says.Delete oid before ∷ ms) fine some =
    let m : Message = says.Delete oid before in
    let none = first_none (place_fault m (is_some (begin_of ms))) (own_fault infos after m ms) fine.0 in
    row_bare infos (relation_of oid ms) oid (open_mark ms) (open_changes infos ms) (ok_or_none (stated infos m ms)) (row.Delete before) (marked_bare infos after ms fine.1) (said infos after m ms none.1 refl) some
