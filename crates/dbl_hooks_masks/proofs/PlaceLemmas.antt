-- The stored indices after one more message.
use Rattle.std.proofs.Common.{◌≡◌, ◌∙◌, ℕ, eqb, Option, Some, None, List, ◌∷◌, refl, sym, ap, subst, inl, inr}
use Rattle.std.proofs.lemmas.Bool.{cases_eq, eq-eqb, ne_eqb, cond-true, cond-false}
use Rattle.dbl_pgmsg.specs.declared.messages.Message.{Message}
use Rattle.dbl_pgmsg.specs.declared.messages.Message.TheVariants.{Begin, Commit, Origin, TypeName, Relation, Insert, Update, Delete, Truncate, Logical}
use Rattle.dbl_model_table.specs.declared.table.TableName.{TableName}
use Rattle.dbl_model_commit.specs.Past.{described, relation_of}
use Rattle.dbl_hooks_masks.specs.declared.masking.Masking.{Masking}
use Rattle.dbl_hooks_masks.specs.declared.places.Places.{Places}
use Rattle.dbl_hooks_masks.specs.Messages.{described_place, masked_place, masked_message}
use Rattle.dbl_hooks_masks.specs.Places.{place_in, IsPlaceSet, Knows}

abbrev pub Found : Type 0
Found = Option (ℕ × Option ℕ)

oid_in : Found → ℕ
oid_in None = 0
oid_in (Some found) = found.0

place_found : Found → Option ℕ
place_found None = None
place_found (Some found) = found.1

module _ (table : TableName) (column : List ℕ) (ms : List Message) where
  -- after a Relation, whose column's index was stored
  pub knows_described : (m : Message) (oid : ℕ) (place : Option ℕ) (before after : Places) → Knows table column ms before
      → described_place table column m ≡ Some (oid, place) → IsPlaceSet oid place before after → Knows table column (m ∷ ms) after
  unfolding oid_in place_found
  knows_described (Relation given namespace name identity columns) oid place before after knows is set = λ other.
      let same : given ≡ oid = ap oid_in is in
      let there = Some (described namespace name identity columns) in
      elim (cases_eq given other) [
        | inl e ↦
            subst (λ (o : ℕ). place_in after o ≡ place) (sym same ∙ e) set.there
            ∙ sym (ap place_found is)
            ∙ ap (masked_place table column) (sym (cond-true (eqb given other) there (relation_of other ms) (eq-eqb given other e)))
        | inr ne ↦
            set.others other (λ is_oid. ne (same ∙ sym is_oid))
            ∙ knows other
            ∙ ap (masked_place table column) (sym (cond-false (eqb given other) there (relation_of other ms) (ne_eqb given other ne)))
      ]
  knows_described (Begin lsn time xid) oid place before after knows is set = absurd cc
  knows_described (Commit flags lsn end_lsn time) oid place before after knows is set = absurd cc
  knows_described (Origin lsn name) oid place before after knows is set = absurd cc
  knows_described (TypeName type namespace name) oid place before after knows is set = absurd cc
  knows_described (Insert given row) oid place before after knows is set = absurd cc
  knows_described (Update given old row) oid place before after knows is set = absurd cc
  knows_described (Delete given old) oid place before after knows is set = absurd cc
  knows_described (Truncate options oids) oid place before after knows is set = absurd cc
  knows_described (Logical flags lsn prefix content) oid place before after knows is set = absurd cc

  -- after another message
  pub knows_others : (m : Message) (places : Places) → Knows table column ms places → described_place table column m ≡ None
      → Knows table column (m ∷ ms) places
  knows_others (Relation given namespace name identity columns) places knows is = absurd cc
  knows_others (Begin lsn time xid) places knows is = knows
  knows_others (Commit flags lsn end_lsn time) places knows is = knows
  knows_others (Origin lsn name) places knows is = knows
  knows_others (TypeName type namespace name) places knows is = knows
  knows_others (Insert given row) places knows is = knows
  knows_others (Update given old row) places knows is = knows
  knows_others (Delete given old) places knows is = knows
  knows_others (Truncate options oids) places knows is = knows
  knows_others (Logical flags lsn prefix content) places knows is = knows

-- a masked message describes the same table
same_described : (plan : Masking) (ms : List Message) (m : Message) (oid : ℕ) → relation_of oid (masked_message plan ms m ∷ ms) ≡ relation_of oid (m ∷ ms)
same_described plan ms (Relation given namespace name identity columns) oid = refl
same_described plan ms (Begin lsn time xid) oid = refl
same_described plan ms (Commit flags lsn end_lsn time) oid = refl
same_described plan ms (Origin lsn name) oid = refl
same_described plan ms (TypeName type namespace name) oid = refl
same_described plan ms (Insert given row) oid = refl
same_described plan ms (Update given old row) oid = refl
same_described plan ms (Delete given old) oid = refl
same_described plan ms (Truncate options oids) oid = refl
same_described plan ms (Logical flags lsn prefix content) oid = refl

pub knows_masked : (plan : Masking) (ms : List Message) (m shown : Message) (table : TableName) (column : List ℕ) (places : Places)
    → shown ≡ masked_message plan ms m → Knows table column (shown ∷ ms) places → Knows table column (m ∷ ms) places
knows_masked plan ms m shown table column places is knows = λ oid.
    knows oid ∙ ap (masked_place table column) (ap (λ (x : Message). relation_of oid (x ∷ ms)) is ∙ same_described plan ms m oid)
