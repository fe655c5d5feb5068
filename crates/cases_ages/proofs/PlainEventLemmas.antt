-- Lemmas of the plain function that writes the records of a commit.
use Rattle.std.proofs.Common.{◌≡◌, ◌∙◌, ◌+◌, ◌≤◌, ℕ, ℤ, Option, List, [], ◌∷◌, ◌++◌, length, map, refl, sym, ap, append-nil, flat_map}
use Rattle.std.specs.Prelude.{option_map, unwrap_or}
use Rattle.std.proofs.lemmas.Option.{slice_get_past}
use Rattle.dbl_record.specs.declared.record.Record.{Record}
use Rattle.dbl_model_table.specs.declared.identity.Identity.{Identity}
use Rattle.dbl_model_table.specs.declared.table.TableInfo.{TableInfo}
use Rattle.dbl_model_table.specs.declared.change.Change.{Change}
use Rattle.dbl_model_table.specs.declared.change.Body.{Body}
use Rattle.dbl_model_table.specs.declared.change.Body.TheVariants.{Changes, Mark}
use Rattle.dbl_model_table.specs.declared.change.Commit.{Commit}
use Rattle.dbl_model_table.specs.Rows.{table_of}
use Rattle.dbl_model_event.specs.Events.{Notice, change_notices, notices, is_nil, numbered}
use Rattle.dbl_model_event.specs.EventJson.{print, envelopes}
use Rattle.cases_ages.specs.PlainEvents.{notice_texts, placed_records}

-- a change at whose place no table is captured tells nothing
pub notices-past : (infos : List TableInfo) (c : Change) → length infos ≤ table_of c → notices infos c ≡ []
notices-past infos c le = ap (λ (o : Option TableInfo). unwrap_or (option_map (λ info. change_notices (table_of c) info c) o) []) (slice_get_past infos (table_of c) le)

pub tells_nothing : {X Y : Type 0} (f : X → Y) (ys : List Y) (xs : List X) → xs ≡ [] → ys ≡ ys ++ map f xs
tells_nothing f ys xs h = sym (append-nil ys) ∙ ap (λ (l : List _). ys ++ map f l) (sym h)

-- events that are numbered and printed are their texts, numbered
pub print-numbered : (identity : Identity) (commit : Commit) (now : ℤ) (position ordinal : ℕ) (ns : List Notice)
    → map (print identity commit now) (numbered position ordinal ns) ≡ placed_records position ordinal (map (notice_texts identity commit now) ns)
print-numbered identity commit now position ordinal [] = refl
print-numbered identity commit now position ordinal (n ∷ []) = refl
print-numbered identity commit now position ordinal (n ∷ m ∷ ns) =
    ap (λ (rs : List Record). print identity commit now (record { notice = n; position = position; ordinal = ordinal; last = is_nil (m ∷ ns) }) ∷ rs) (print-numbered identity commit now position (ordinal + 1) (m ∷ ns))

pub envelopes-placed : (identity : Identity) (infos : List TableInfo) (commit : Commit) (now : ℤ) (changes : List Change) → commit.body ≡ Changes changes
    → placed_records commit.lsn.0 0 (map (notice_texts identity commit now) (flat_map (notices infos) changes)) ≡ envelopes identity infos commit now
envelopes-placed identity infos commit now changes is =
    sym (print-numbered identity commit now commit.lsn.0 0 (flat_map (notices infos) changes))
    ∙ ap (λ (b : Body). map (print identity commit now) (numbered commit.lsn.0 0 (flat_map (notices infos) (elim b [ Changes cs ↦ cs | Mark value ↦ [] ])))) (sym is)
