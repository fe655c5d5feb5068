-- One more message is read: the next Relation that is missing, and the step to the place after a message.
use Rattle.std.proofs.Common.{◌≡◌, ◌∙◌, ◌⊎◌, inl, inr, ◌+◌, ◌<◌, ◌≤◌, ℕ, zero, suc, Bool, true, false, Option, Some, None, List, [], ◌∷◌, ◌++◌, length, take, refl, sym, ap, subst, arith}
use Rattle.std.specs.Prelude.{if◌then◌else◌, option_map, unwrap_or, slice_get, Result, Ok, Err, IfOk, IfErr}
use Rattle.std.specs.BTreeMap.{BTreeMap}
use Rattle.std.proofs.lemmas.List.{take_more, take_all}
use Rattle.std.proofs.lemmas.Option.{slice_get_within, get_or_from_slice_get}
use Rattle.dbl_pgmsg.specs.declared.messages.Message.{Message}
use Rattle.dbl_pgmsg.specs.declared.messages.RelationColumn.{RelationColumn}
use Rattle.dbl_pgmsg.specs.Grammar.{Fits}
use Rattle.dbl_source_model.specs.ModelCommit.Stated.{list_of}
use Rattle.dbl_source_log.specs.declared.logged.LogTable.{LogTable}
use Rattle.dbl_source_log.specs.declared.logged.Logged.{Logged}
use Rattle.dbl_source_log.specs.declared.reader_position.ReaderPosition.{ReaderPosition}
use Rattle.dbl_source_log.specs.Relations.{relation_at}
use Rattle.dbl_source_log.specs.Sent.{is_described, oids_of, messages_in, onto_relation, onto_relations, index_of, tables_at, told_at, IsPlaceIn}
use Rattle.dbl_source_log.proofs.SentLemmas.{onto_relations-append}
use Rattle.dbl_source_log.proofs.PlaceLemmas.{table_looked_at, change_told, base, told_begun, relation_read, change_read, placed_begun}
use Rattle.dbl_source_log.specs.declared.error.SourceError.{SourceError}
use Rattle.dbl_source_log.specs.declared.error.SourceError.TheVariants.{Failed, Memory}
use Rattle.dbl_source_log.specs.declared.reading.Step.{Step}
use Rattle.dbl_source_log.specs.declared.reading.Missing.{Missing}
use Rattle.dbl_source_log.specs.Readings.{Describes, IsMissing, LeadsTo, Steps}

-- the step to the place after a message reads the next one, where the reader has read the message there
pub leads_steps : (tables : List LogTable) (log : List Logged) (place next : ReaderPosition) (m : Message) (r : Result Step SourceError) → IfOk r (LeadsTo m next)
    → IfErr r (λ e. (e ≡ Memory) ⊎ ((e ≡ Failed) × (¬ Fits m))) → next.after ≡ place.after → told_at tables log next ≡ m ∷ told_at tables log place → IsPlaceIn log next → Steps tables log place r
leads_steps tables log place next m (Ok step) leads fault same told placed = record {
  message = m;
  spelled = leads.spelled;
  told = ap (told_at tables log) leads.place_is ∙ told;
  same = ap (λ (p : ReaderPosition). p.after) leads.place_is ∙ same;
  placed = subst (IsPlaceIn log) (sym leads.place_is) placed;
  described = leads.described;
}
leads_steps tables log place next m (Err e) leads fault same told placed =
    elim fault [ inl memory ↦ inl memory | inr failed ↦ inr (failed.0, record { message = m; next = next; same = same; told = told; unfit = failed.1 }) ]

-- ---- the tables of a change, one after the other

module _ (tables : List LogTable) (oids : List ℕ) (table oid : ℕ) (base : List Message) (there : slice_get oids table ≡ Some oid) where
  abbrev past : List Message
  past = onto_relations tables (take table oids) base

  one_more : onto_relations tables (take (table + 1) oids) base ≡ onto_relation tables oid past
  one_more =
      ap (λ (l : List ℕ). onto_relations tables l base) (take_more oids table oid (slice_get_within oids table oid there) ∙ ap (λ (x : ℕ). take table oids ++ x ∷ []) (get_or_from_slice_get oids table oid oid there))
      ∙ onto_relations-append tables (take table oids) (oid ∷ []) base

  -- one that is described as it is
  pub passed_over : is_described tables oid past ≡ true → onto_relations tables (take (table + 1) oids) base ≡ past
  passed_over is = one_more ∙ ap (λ (b : Bool). if b then past else list_of (relation_at tables oid) ++ past) is

  -- one that has no Relation
  pub none_to_tell : relation_at tables oid ≡ None → onto_relations tables (take (table + 1) oids) base ≡ past
  none_to_tell is = one_more ∙ by (is_described tables oid past)
    where
      by : (b : Bool) → (if b then past else list_of (relation_at tables oid) ++ past) ≡ past
      by true = refl
      by false = ap (λ (o : Option Message). list_of o ++ past) is

  -- one that is described now
  pub one_missing : (m : Message) → is_described tables oid past ≡ false → relation_at tables oid ≡ Some m → onto_relations tables (take (table + 1) oids) base ≡ m ∷ past
  one_missing m new is =
      one_more
      ∙ ap (λ (b : Bool). if b then past else list_of (relation_at tables oid) ++ past) new
      ∙ ap (λ (o : Option Message). list_of o ++ past) is

pub oid_within : (oids : List ℕ) (table oid : ℕ) → Some oid ≡ slice_get oids table → table < length oids
oid_within oids table oid is = slice_get_within oids table oid (sym is)

-- no table is left
pub all_looked_at : (oids : List ℕ) (table : ℕ) → slice_get oids table ≡ None → take table oids ≡ oids
all_looked_at oids table none = take_all table oids (beyond oids table none)
  where
    beyond : (xs : List ℕ) (n : ℕ) → slice_get xs n ≡ None → length xs ≤ n
    beyond [] n out = omega arith
    beyond (x ∷ xs) zero out = cc
    beyond (x ∷ xs) (suc n) out = omega (arith, beyond xs n out)

-- ---- inside of a change

module _ (tables : List LogTable) (log : List Logged) (place : ReaderPosition) (entry : Logged) (m : Message) (there : slice_get log (index_of place) ≡ Some entry) (begun : place.begun ≡ true) (change : slice_get (messages_in entry) place.change ≡ Some m) (now : List LogTable) (tables_are : now ≡ tables_at tables log place) where
  -- what was read so far, by the tables of the next change
  told_here : told_at tables log place ≡ onto_relations now (take place.table (oids_of m)) (base tables log place entry)
  told_here =
      told_begun tables log place entry there begun
      ∙ ap (λ (l : List ℕ). onto_relations (tables_at tables log place) (take place.table l) (base tables log place entry)) (ap (λ (o : Option Message). unwrap_or (option_map oids_of o) []) change)
      ∙ sym (ap (λ (ts : List LogTable). onto_relations ts (take place.table (oids_of m)) (base tables log place entry)) tables_are)

  pub describes_here : (described : BTreeMap ℕ (List RelationColumn)) → Describes described (told_at tables log place) → Describes described (onto_relations now (take place.table (oids_of m)) (base tables log place entry))
  describes_here described all = subst (Describes described) told_here all

  pub missing_steps : (missing : Missing) (r : Result Step SourceError) → IsPlaceIn log place → IsMissing now (oids_of m) place.table (base tables log place entry) missing → IfOk r (LeadsTo missing.relation (table_looked_at place missing.table))
      → IfErr r (λ e. (e ≡ Memory) ⊎ ((e ≡ Failed) × (¬ Fits missing.relation))) → Steps tables log place r
  missing_steps missing r placed is leads fault =
      leads_steps tables log place (table_looked_at place missing.table) missing.relation r leads fault refl
      (relation_read tables log place entry m missing.relation missing.table there begun change
      (subst (λ (ts : List LogTable). onto_relations ts (take missing.table (oids_of m)) (base tables log place entry) ≡ missing.relation ∷ onto_relations ts (take place.table (oids_of m)) (base tables log place entry)) tables_are is.told))
      (placed_begun tables log place missing.table place.change entry there placed)

  pub change_steps : (r : Result Step SourceError) → IsPlaceIn log place → onto_relations now (oids_of m) (base tables log place entry) ≡ onto_relations now (take place.table (oids_of m)) (base tables log place entry)
      → IfOk r (LeadsTo m (change_told place)) → IfErr r (λ e. (e ≡ Memory) ⊎ ((e ≡ Failed) × (¬ Fits m))) → Steps tables log place r
  change_steps r placed all leads fault =
      leads_steps tables log place (change_told place) m r leads fault refl
      (change_read tables log place entry m there begun change
      (subst (λ (ts : List LogTable). onto_relations ts (oids_of m) (base tables log place entry) ≡ onto_relations ts (take place.table (oids_of m)) (base tables log place entry)) tables_are all))
      (placed_begun tables log place 0 (place.change + 1) entry there placed)
