-- The reading of one more message of a log.
use Rattle.std.specs.Prelude.{◌≡◌, ◌⊎◌, ℕ, Option, Some, None, option_map, MatchOption, Result, MatchResult, List, ◌∷◌, take}
use Rattle.std.specs.Ordering.{nat_cmp}
use Rattle.std.specs.BTreeMap.{BTreeMap, get}
use Rattle.dbl_pgmsg.specs.declared.messages.Message.{Message}
use Rattle.dbl_pgmsg.specs.declared.messages.Message.TheVariants as says
use Rattle.dbl_pgmsg.specs.declared.messages.RelationColumn.{RelationColumn}
use Rattle.dbl_pgmsg.specs.Grammar.{Fits, Spells}
use Rattle.dbl_source_model.specs.ModelCommit.Past.{relation_of}
use Rattle.dbl_source_log.specs.declared.logged.LogTable.{LogTable}
use Rattle.dbl_source_log.specs.declared.logged.Logged.{Logged}
use Rattle.dbl_source_log.specs.declared.reader_position.ReaderPosition.{ReaderPosition}
use Rattle.dbl_source_log.specs.Sent.{onto_relations, told_at, IsPlaceIn}
use Rattle.dbl_source_log.specs.declared.error.SourceError.{SourceError}
use Rattle.dbl_source_log.specs.declared.error.SourceError.TheVariants.{Failed, Memory}
use Rattle.dbl_source_log.specs.declared.reading.Description.{Description}
use Rattle.dbl_source_log.specs.declared.reading.Missing.{Missing}
use Rattle.dbl_source_log.specs.declared.reading.Step.{Step}

-- The table that a message describes, and its columns.
abbrev pub description_in : Message → Option Description
description_in (says.Relation oid namespace name identity columns) = Some (record { oid = oid; columns = columns })
description_in m = None

-- Whether the map has the columns of each table that was described by these messages, those since the start, as the last one describes them.
abbrev pub Describes : BTreeMap ℕ (List RelationColumn) → List Message → Type 0
Describes described past = (oid : ℕ) → get nat_cmp described oid ≡ option_map (λ relation. relation.columns) (relation_of oid past)

-- Whether the step reads the next message of a log for a reader at a position: its bytes are the message's, and its position is after that
-- message.
pub record IsNext (tables : List LogTable) (log : List Logged) (place : ReaderPosition) (step : Step) : Type 0 where
  pub message : Message
  pub spelled : Spells step.bytes message
  pub told : told_at tables log step.place ≡ message ∷ told_at tables log place
  pub same : step.place.after ≡ place.after
  pub placed : IsPlaceIn log step.place
  pub described : step.described ≡ description_in message

-- Whether the next message has no encoding.
pub record HasUnfit (tables : List LogTable) (log : List Logged) (place : ReaderPosition) : Type 0 where
  pub message : Message
  pub next : ReaderPosition
  pub same : next.after ≡ place.after
  pub told : told_at tables log next ≡ message ∷ told_at tables log place
  pub unfit : ¬ Fits message

-- Whether one more message was read, or it has no encoding, or memory ran out.
abbrev pub Steps : List LogTable → List Logged → ReaderPosition → Result Step SourceError → Type 0
Steps tables log place result =
    MatchResult result (IsNext tables log place) (λ e. (e ≡ Memory) ⊎ ((e ≡ Failed) × HasUnfit tables log place))

-- ---- for private clauses

-- Whether a table is the next of these, from an index on, that a Relation has to describe. The tables before that index were checked after
-- `base`.
pub record IsMissing (tables : List LogTable) (oids : List ℕ) (from : ℕ) (base : List Message) (next : Missing) : Type 0 where
  pub told : onto_relations tables (take next.table oids) base ≡ next.relation ∷ onto_relations tables (take from oids) base

-- Whether such a table was found, or none is left to be described.
abbrev pub FindsMissingRelation : List LogTable → List ℕ → ℕ → List Message → Option Missing → Type 0
FindsMissingRelation tables oids from base found =
    MatchOption found (onto_relations tables oids base ≡ onto_relations tables (take from oids) base) (IsMissing tables oids from base)

-- Whether the step reads this message and leads to this position.
pub record LeadsTo (message : Message) (place : ReaderPosition) (step : Step) : Type 0 where
  pub spelled : Spells step.bytes message
  pub place_is : step.place ≡ place
  pub described : step.described ≡ description_in message
