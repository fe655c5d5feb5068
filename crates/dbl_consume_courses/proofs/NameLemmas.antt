-- The names of a table and key, which no alteration changes.
use Rattle.std.proofs.Common.{◌≡◌, ◌∙◌, inl, inr, ℕ, Option, Some, None, List, [], ◌∷◌, ◌++◌, sym, ap, subst}
use Rattle.std.proofs.lemmas.Bool.{cases_eq}
use Rattle.std.specs.Prelude.{slice_get}
use Rattle.serde_json.specs.Data.{object}
use Rattle.serde_json.specs.Written.{compact_text}
use Rattle.dbl_value_types.specs.declared.column_type.PgType.{PgType}
use Rattle.dbl_model_table.specs.declared.identity.Identity.{Identity}
use Rattle.dbl_model_table.specs.declared.row.Key.{Key}
use Rattle.dbl_model_table.specs.declared.table.TableInfo.{TableInfo}
use Rattle.dbl_model_table.specs.Infos.{key_names, key_types}
use Rattle.dbl_model_history.specs.Fit.{AreOf}
use Rattle.dbl_model_history.specs.Image.{Names, members_of}
use Rattle.dbl_consume_courses.specs.Versions.{Alteration, Versioned, FollowsInfos, AreVersionsFrom}
use Rattle.dbl_consume_courses.specs.Courses.{infos_after}
use Rattle.dbl_consume_courses.proofs.TickLemmas.{topic_by}

names_by : (identity : Identity) (old : List TableInfo) (v : Versioned) (o : Option Alteration) (topic text : List ℕ) (table : ℕ) (key : Key) → FollowsInfos old v o → Names identity old topic text table key → Names identity v.infos topic text table key
names_by identity old v None topic text table key follows names = subst (λ (l : List TableInfo). Names identity l topic text table key) (sym follows) names
names_by identity old v (Some alteration) topic text table key alters names = elim (cases_eq table alteration.table) [
  | inl same ↦ (
      let own : Some names.info ≡ Some alters.before = sym names.captured ∙ (ap (slice_get old) same ∙ alters.was) in
      let info_is : names.info ≡ alters.before = cc in
      let name : names.info.name ≡ alters.info.name = ap (λ (i : TableInfo). i.name) info_is ∙ alters.alike.name in
      let keys : key_names names.info ≡ key_names alters.info = ap key_names info_is ∙ alters.alike.keys in
      let types : key_types names.info ≡ key_types alters.info = ap key_types info_is ∙ alters.alike.types in
      record {
        info = alters.info;
        captured = ap (slice_get v.infos) same ∙ alters.is;
        is_key = subst (λ (l : List PgType). AreOf l key.cells) types names.is_key;
        topic_is = topic_by identity alters.info names.info (sym name) ∙ names.topic_is;
        text_is = ap (λ (l : List (List ℕ)). compact_text (object (members_of l key.cells))) (sym keys) ∙ names.text_is;
      })
  | inr apart ↦ record { info = names.info; captured = alters.others table apart ∙ names.captured; is_key = names.is_key; topic_is = names.topic_is; text_is = names.text_is }
]

pub names_at : (identity : Identity) (infos : List TableInfo) (earlier : List Versioned) (v : Versioned) (later : List Versioned) (topic text : List ℕ) (table : ℕ) (key : Key) → AreVersionsFrom infos (earlier ++ v ∷ later) → Names identity infos topic text table key → Names identity v.infos topic text table key
names_at identity infos [] v later topic text table key follow names = names_by identity infos v v.altered topic text table key follow.0 names
names_at identity infos (x ∷ earlier) v later topic text table key follow names =
    names_at identity x.infos earlier v later topic text table key follow.1 (names_by identity infos x x.altered topic text table key follow.0 names)

names_from : (identity : Identity) (old : List TableInfo) (v : Versioned) (o : Option Alteration) (topic text : List ℕ) (table : ℕ) (key : Key) → FollowsInfos old v o → Names identity v.infos topic text table key → Names identity old topic text table key
names_from identity old v None topic text table key follows names = subst (λ (l : List TableInfo). Names identity l topic text table key) follows names
names_from identity old v (Some alteration) topic text table key alters names = elim (cases_eq table alteration.table) [
  | inl same ↦ (
      let own : Some names.info ≡ Some alters.info = sym names.captured ∙ (ap (slice_get v.infos) same ∙ alters.is) in
      let info_is : names.info ≡ alters.info = cc in
      let name : names.info.name ≡ alters.before.name = ap (λ (i : TableInfo). i.name) info_is ∙ sym alters.alike.name in
      let keys : key_names names.info ≡ key_names alters.before = ap key_names info_is ∙ sym alters.alike.keys in
      let types : key_types names.info ≡ key_types alters.before = ap key_types info_is ∙ sym alters.alike.types in
      record {
        info = alters.before;
        captured = ap (slice_get old) same ∙ alters.was;
        is_key = subst (λ (l : List PgType). AreOf l key.cells) types names.is_key;
        topic_is = topic_by identity alters.before names.info (sym name) ∙ names.topic_is;
        text_is = ap (λ (l : List (List ℕ)). compact_text (object (members_of l key.cells))) (sym keys) ∙ names.text_is;
      })
  | inr apart ↦ record { info = names.info; captured = sym (alters.others table apart) ∙ names.captured; is_key = names.is_key; topic_is = names.topic_is; text_is = names.text_is }
]

pub names_back : (identity : Identity) (infos : List TableInfo) (earlier : List Versioned) (v : Versioned) (later : List Versioned) (topic text : List ℕ) (table : ℕ) (key : Key) → AreVersionsFrom infos (earlier ++ v ∷ later) → Names identity v.infos topic text table key → Names identity infos topic text table key
names_back identity infos [] v later topic text table key follow names = names_from identity infos v v.altered topic text table key follow.0 names
names_back identity infos (x ∷ earlier) v later topic text table key follow names =
    names_from identity infos x x.altered topic text table key follow.0 (names_back identity x.infos earlier v later topic text table key follow.1 names)

-- ---- after all of some commits

pub names_after : (identity : Identity) (infos : List TableInfo) (versions : List Versioned) (topic text : List ℕ) (table : ℕ) (key : Key) → AreVersionsFrom infos versions → Names identity infos topic text table key
    → Names identity (infos_after infos versions) topic text table key
names_after identity infos [] topic text table key follow names = names
names_after identity infos (v ∷ versions) topic text table key follow names =
    names_after identity v.infos versions topic text table key follow.1 (names_by identity infos v v.altered topic text table key follow.0 names)

pub names_before : (identity : Identity) (infos : List TableInfo) (versions : List Versioned) (topic text : List ℕ) (table : ℕ) (key : Key) → AreVersionsFrom infos versions → Names identity (infos_after infos versions) topic text table key
    → Names identity infos topic text table key
names_before identity infos [] topic text table key follow names = names
names_before identity infos (v ∷ versions) topic text table key follow names =
    names_from identity infos v v.altered topic text table key follow.0 (names_before identity v.infos versions topic text table key follow.1 names)
