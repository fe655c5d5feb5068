-- The LSN of the stored offset is confirmed, from call to call.
use Rattle.std.proofs.Common.{◌≡◌, ◌⊎◌, inl, inr, ◌≤◌, ℕ, max, Option, Some, None, refl, sym, ap, subst, arith}
use Rattle.dbl_base.specs.declared.lsn.Lsn.{Lsn}
use Rattle.dbl_model_table.specs.declared.config.Config.{Config}
use Rattle.dbl_capture_work.specs.SourceModel.Standings.{SourceState}
use Rattle.dbl_capture_work.specs.Offset.declared.offset.Offset.{Offset}
use Rattle.dbl_capture_work.specs.Begins.{IsOffsetFor}
use Rattle.dbl_capture_laws.specs.Found.{HasConfirmed}

-- an offset whose LSN is confirmed
pub confirmed_next : (found : Option Offset) (offset : Offset) (stored : Option Offset) (t : SourceState) → stored ≡ Some offset → offset.lsn.0 ≤ t.confirmed.0 → HasConfirmed found stored t
confirmed_next None offset stored t is le = subst (λ (o : Option Offset). HasConfirmed None o t) (sym is) (inl le)
confirmed_next (Some old) offset stored t is le = subst (λ (o : Option Offset). HasConfirmed (Some old) o t) (sym is) (inl le)

-- what was confirmed still is
pub confirmed_on : (found stored later : Option Offset) (s t : SourceState) → later ≡ stored → t.confirmed ≡ s.confirmed → HasConfirmed found stored s → HasConfirmed found later t
confirmed_on found stored later s t same level was = subst (λ (o : Option Offset). HasConfirmed found o t) (sym same) (by found stored was)
  where
    still : (offset : Offset) → offset.lsn.0 ≤ s.confirmed.0 → offset.lsn.0 ≤ t.confirmed.0
    still offset le = subst (λ (l : Lsn). offset.lsn.0 ≤ l.0) (sym level) le

    by : (f o : Option Offset) → HasConfirmed f o s → HasConfirmed f o t
    by f None was = tt
    by None (Some offset) (inl le) = inl (still offset le)
    by None (Some offset) (inr is) = inr is
    by (Some old) (Some offset) (inl le) = inl (still offset le)
    by (Some old) (Some offset) (inr is) = inr is

pub greater : (a b c : ℕ) → c ≡ max a b → b ≤ c
greater a b c is = omega (arith, is)

-- ---- where it begins

pub confirmed_found : (found : Option Offset) (t : SourceState) → HasConfirmed found found t
confirmed_found None t = tt
confirmed_found (Some old) t = inr refl

pub confirmed_first : (config : Config) (found : Option Offset) (offset : Offset) (stored : Option Offset) (t : SourceState) → IsOffsetFor config found offset → stored ≡ Some offset → HasConfirmed found stored t
confirmed_first config None offset stored t for is = subst (λ (o : Option Offset). HasConfirmed None o t) (sym is) (inr for.3)
confirmed_first config (Some old) offset stored t for is = subst (λ (o : Option Offset). HasConfirmed (Some old) o t) (sym is) (inr (ap (λ (o : Offset). o.lsn) for))

pub confirmed_or_first : (config : Config) (found stored : Option Offset) (t : SourceState) → (stored ≡ found) ⊎ ((offset : Offset) × (stored ≡ Some offset) × IsOffsetFor config found offset) → HasConfirmed found stored t
confirmed_or_first config found stored t (inl same) = subst (λ (o : Option Offset). HasConfirmed found o t) (sym same) (confirmed_found found t)
confirmed_or_first config found stored t (inr first) = confirmed_first config found first.0 stored t first.2 first.1
