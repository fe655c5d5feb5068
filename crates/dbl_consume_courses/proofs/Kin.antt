-- Captured tables before and after alterations: the same ones, by their names.
use Rattle.std.proofs.Common.{◌≡◌, ◌≢◌, ◌∙◌, inl, inr, ℕ, zero, suc, Bool, true, Option, Some, None, List, [], ◌∷◌, map, refl, sym, ap, ap₂, subst}
use Rattle.std.proofs.lemmas.Bool.{cases_eq, eq-eqb}
use Rattle.std.specs.Prelude.{◌==◌, if◌then◌else◌, IsSome, IsTrue, slice_get}
use Rattle.dbl_model_table.specs.declared.table.TableInfo.{TableInfo}
use Rattle.dbl_model_table.specs.declared.table.TableName.{TableName}
use Rattle.dbl_model_table.specs.Tables.{same_name, are_distinct}
use Rattle.dbl_model_history.specs.Laws.{AreDistinctTables}
use Rattle.dbl_consume_courses.specs.Versions.{Alteration, Versioned, FollowsInfos, AreVersionsFrom}
use Rattle.dbl_consume_courses.specs.Courses.{alteration_of, infos_after, AreUnaltered}

abbrev pub AreKin : List TableInfo → List TableInfo → Type 0
AreKin [] [] = Unit {0}
AreKin [] (b ∷ ys) = ⊥
AreKin (a ∷ xs) [] = ⊥
AreKin (a ∷ xs) (b ∷ ys) = (a.name ≡ b.name) × AreKin xs ys

abbrev IsNear : Option TableInfo → Option TableInfo → Type 0
IsNear None None = Unit {0}
IsNear None (Some b) = ⊥
IsNear (Some a) None = ⊥
IsNear (Some a) (Some b) = a.name ≡ b.name

near_itself : (o : Option TableInfo) → IsNear o o
near_itself None = tt
near_itself (Some a) = refl

kin_from : (xs ys : List TableInfo) → ((i : ℕ) → IsNear (slice_get xs i) (slice_get ys i)) → AreKin xs ys
kin_from [] [] near = tt
kin_from [] (b ∷ ys) near = near 0
kin_from (a ∷ xs) [] near = near 0
kin_from (a ∷ xs) (b ∷ ys) near = (near 0, kin_from xs ys (λ i. near (suc i)))

pub kin_itself : (xs : List TableInfo) → AreKin xs xs
kin_itself [] = tt
kin_itself (a ∷ xs) = (refl, kin_itself xs)

pub kin_trans : (xs ys cs : List TableInfo) → AreKin xs ys → AreKin ys cs → AreKin xs cs
kin_trans [] [] cs one two = two
kin_trans [] (b ∷ ys) cs one two = elim one [ ]
kin_trans (a ∷ xs) [] cs one two = elim one [ ]
kin_trans (a ∷ xs) (b ∷ ys) [] one two = elim two [ ]
kin_trans (a ∷ xs) (b ∷ ys) (c ∷ cs) one two = (one.0 ∙ two.0, kin_trans xs ys cs one.1 two.1)

pub kin_back : (xs ys : List TableInfo) → AreKin xs ys → AreKin ys xs
kin_back [] [] kin = tt
kin_back [] (b ∷ ys) kin = elim kin [ ]
kin_back (a ∷ xs) [] kin = elim kin [ ]
kin_back (a ∷ xs) (b ∷ ys) kin = (sym kin.0, kin_back xs ys kin.1)

-- the same table is there
pub kin_at : (xs ys : List TableInfo) → AreKin xs ys → (i : ℕ) (a : TableInfo) → slice_get xs i ≡ Some a → (b : TableInfo) × (slice_get ys i ≡ Some b) × (a.name ≡ b.name)
kin_at [] [] kin i a at = cc
kin_at [] (b ∷ ys) kin i a at = elim kin [ ]
kin_at (x ∷ xs) [] kin i a at = elim kin [ ]
kin_at (x ∷ xs) (b ∷ ys) kin zero a at = let same : x ≡ a = cc in (b, refl, ap (λ (t : TableInfo). t.name) (sym same) ∙ kin.0)
kin_at (x ∷ xs) (b ∷ ys) kin (suc i) a at = kin_at xs ys kin.1 i a at

pub kin_some : (xs ys : List TableInfo) → AreKin xs ys → (i : ℕ) → IsSome (slice_get xs i) → IsSome (slice_get ys i)
kin_some [] [] kin i some = some
kin_some [] (b ∷ ys) kin i some = elim kin [ ]
kin_some (a ∷ xs) [] kin i some = elim kin [ ]
kin_some (a ∷ xs) (b ∷ ys) kin zero some = refl
kin_some (a ∷ xs) (b ∷ ys) kin (suc i) some = kin_some xs ys kin.1 i some

kin_names : (xs ys : List TableInfo) → AreKin xs ys → map (λ (info : TableInfo). info.name) xs ≡ map (λ (info : TableInfo). info.name) ys
kin_names [] [] kin = refl
kin_names [] (b ∷ ys) kin = elim kin [ ]
kin_names (a ∷ xs) [] kin = elim kin [ ]
kin_names (a ∷ xs) (b ∷ ys) kin = ap₂ (λ (n : TableName) (l : List TableName). n ∷ l) kin.0 (kin_names xs ys kin.1)

pub kin_distinct : (xs ys : List TableInfo) → AreKin xs ys → AreDistinctTables xs → AreDistinctTables ys
kin_distinct xs ys kin apart = subst (λ (l : List TableName). IsTrue (are_distinct same_name l)) (kin_names xs ys kin) apart

-- ---- along versions

pub kin_one : (old : List TableInfo) (v : Versioned) (o : Option Alteration) → FollowsInfos old v o → AreKin old v.infos
kin_one old v None follows = subst (AreKin old) (sym follows) (kin_itself old)
kin_one old v (Some alteration) alters = kin_from old v.infos at
  where
    own : IsNear (slice_get old alteration.table) (slice_get v.infos alteration.table)
    own = subst (λ (o : Option TableInfo). IsNear o (slice_get v.infos alteration.table)) (sym alters.was) (subst (IsNear (Some alters.before)) (sym alters.is) alters.alike.name)

    at : (i : ℕ) → IsNear (slice_get old i) (slice_get v.infos i)
    at i = elim (cases_eq i alteration.table) [
      | inl same ↦ subst (λ (t : ℕ). IsNear (slice_get old t) (slice_get v.infos t)) (sym same) own
      | inr apart ↦ subst (IsNear (slice_get old i)) (sym (alters.others i apart)) (near_itself (slice_get old i))
    ]

pub kin_all : (old : List TableInfo) (versions : List Versioned) → AreVersionsFrom old versions → AreKin old (infos_after old versions)
kin_all old [] follow = kin_itself old
kin_all old (v ∷ versions) follow = kin_trans old v.infos (infos_after v.infos versions) (kin_one old v v.altered follow.0) (kin_all v.infos versions follow.1)

-- a commit that doesn't alter a table leaves its description
pub same_one : (table : ℕ) (old : List TableInfo) (v : Versioned) (o : Option Alteration) → FollowsInfos old v o → alteration_of table o ≡ None → slice_get v.infos table ≡ slice_get old table
same_one table old v None follows unaltered = ap (λ (l : List TableInfo). slice_get l table) follows
same_one table old v (Some alteration) alters unaltered = alters.others table apart
  where
    apart : table ≢ alteration.table
    apart same =
        let own : (alteration.table == table) ≡ true = eq-eqb alteration.table table (sym same) in
        let rows : Some alteration.rows ≡ None = ap (λ (b : Bool). if b then Some alteration.rows else None) (sym own) ∙ unaltered in
        cc

pub same_all : (table : ℕ) (old : List TableInfo) (versions : List Versioned) → AreVersionsFrom old versions → AreUnaltered table versions → slice_get (infos_after old versions) table ≡ slice_get old table
same_all table old [] follow unaltered = refl
same_all table old (v ∷ versions) follow unaltered = same_all table v.infos versions follow.1 unaltered.1 ∙ same_one table old v v.altered follow.0 unaltered.0
