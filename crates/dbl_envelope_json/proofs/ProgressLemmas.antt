-- The value of a progress record.
use Rattle.std.proofs.Common.{◌≡◌, ◌∙◌, ◌<◌, ℕ, Bool, Option, Some, None, List, length, refl, sym, ap, ap₂, subst, append_assoc}
use Rattle.std.specs.List.{All}
use Rattle.std.specs.Prelude.{IfSome}
use Rattle.json.specs.Token as t
use Rattle.json.specs.Print.{print}
use Rattle.json.specs.Tree.{json_tokens}
use Rattle.serde_json.specs.Data.{object}
use Rattle.serde_json.specs.Written.{outline, compact_text}
use Rattle.serde_json.proofs.Texts.{print-outline}
use Rattle.dbl_model_table.specs.declared.identity.Identity.{Identity}
use Rattle.dbl_model_table.specs.declared.row.Key.{Key}
use Rattle.dbl_model_table.specs.declared.table.TableInfo.{TableInfo}
use Rattle.dbl_model_table.specs.Tables.{full_name}
use Rattle.dbl_model_event.specs.Snapshots.{last_data, progress_data}
use Rattle.dbl_envelope_json.specs.declared.layout.Layout.{Layout}
use Rattle.dbl_envelope_json.specs.Layouts.{layout_of}
use Rattle.dbl_envelope_json.specs.Tokens.{progress_tokens}
use Rattle.dbl_envelope_json.specs.Frames.{through_data}
use Rattle.dbl_envelope_json.proofs.LayoutLemmas.{key_cells_members, key_cells_fit}

pub through_fits : (identity : Identity) (info : TableInfo) (layout : Layout) (through : Option Key) → layout ≡ layout_of identity info → IfSome through (λ key. length key.cells ≡ length info.key)
    → IfSome through (λ key. All (λ p. p.index < length key.cells) layout.key_cells)
through_fits identity info layout None is h = h
through_fits identity info layout (Some key) is h = subst (λ (l : Layout). All (λ p. p.index < length key.cells) l.key_cells) (sym is) (key_cells_fit identity info (length key.cells) h)

through_is : (identity : Identity) (info : TableInfo) (layout : Layout) (through : Option Key) → layout ≡ layout_of identity info → IfSome through (λ key. length key.cells ≡ length info.key)
    → through_data layout.key_cells through ≡ last_data info through
through_is identity info layout None is h = refl
through_is identity info layout (Some key) is h = ap (λ (l : Layout). through_data l.key_cells (Some key)) is ∙ ap object (key_cells_members identity info key.cells h)

progress_shape : (info : TableInfo) (through : Option Key) (done : Bool)
    → progress_tokens (t.boolean done) (json_tokens (outline (last_data info through))) (full_name info.name) ≡ json_tokens (outline (progress_data info through done))
unfolding progress_data
progress_shape info through done = simp append_assoc

pub progress_is : (identity : Identity) (info : TableInfo) (layout : Layout) (through : Option Key) (done : Bool) (table : List ℕ) → layout ≡ layout_of identity info → IfSome through (λ key. length key.cells ≡ length info.key) → table ≡ full_name info.name
    → print (progress_tokens (t.boolean done) (json_tokens (outline (through_data layout.key_cells through))) table) ≡ compact_text (progress_data info through done)
progress_is identity info layout through done table is long named =
    ap₂ (λ d n. print (progress_tokens (t.boolean done) (json_tokens (outline d)) n)) (through_is identity info layout through is long) named
    ∙ ap print (progress_shape info through done)
    ∙ print-outline (progress_data info through done)
