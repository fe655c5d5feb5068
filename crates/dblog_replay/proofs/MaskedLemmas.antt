-- Messages that are masked, one by one.
use Rattle.std.proofs.Common.{◌≡◌, ◌∙◌, Option, Some, None, Result, OnOk, IfOk, List, [], ◌∷◌, refl, sym, ap, subst}
use Rattle.dbl_pgmsg.specs.declared.messages.Message.{Message}
use Rattle.dbl_pgmsg.specs.Grammar.{FitsFields}
use Rattle.dbl_model_table.specs.declared.table.TableName.{TableName}
use Rattle.dbl_hooks_masks.specs.declared.mapper.Mapper.{Mapper}
use Rattle.dbl_hooks_masks.specs.declared.mask.Mask.{Mask}
use Rattle.dbl_hooks_masks.specs.declared.masker.BuiltinMasker.{BuiltinMasker}
use Rattle.dbl_hooks_masks.specs.declared.masking.Masking.{Masking}
use Rattle.dbl_hooks_masks.specs.Messages.{masking, masked_message}
use Rattle.dbl_hooks_masks.specs.Places.{Knows}
use Rattle.dbl_hooks_masks.proofs.FitLemmas.{fields_fit}
use Rattle.dbl_hooks_masks.proofs.ResultLemmas.{on_success}
use Rattle.dblog_replay.specs.Pieces.{Carries, Stops}
use Rattle.dblog_replay.specs.Masked.{masked_with, MaskedPiecesFit, IsMapperOf, AreMapped}

pub masked_fits : (mask : Option Masking) (past : List Message) (m : Message) → FitsFields m → FitsFields (masked_with mask past m)
masked_fits None past m fits = fits
masked_fits (Some plan) past m fits = fields_fit plan past m fits

pub masked_pieces_fit : MaskedPiecesFit
masked_pieces_fit mask past [] fit = tt
masked_pieces_fit mask past (Stops fault ∷ pieces) fit = masked_pieces_fit mask past pieces fit
masked_pieces_fit mask past (Carries number m ∷ pieces) fit = (masked_fits mask past m fit.0, masked_pieces_fit mask (m ∷ past) pieces fit.1)

none_or_some : {A : Type 0} (o : Option A) (x : A) → o ≡ None → o ≡ Some x → ⊥
none_or_some o x none some = let both : None ≡ Some x = sym none ∙ some in cc

one_some : {A : Type 0} (x y : A) → Some x ≡ Some y → x ≡ y
one_some x y same = cc

-- the mask that a mapper has
plan_of : (plan : Masking) (past : List Message) (was : Mapper BuiltinMasker) → IsMapperOf plan past was
    → masking was.table was.column was.masker.mask ≡ plan
plan_of plan past was of =
    ap (λ (t : TableName). masking t was.column was.masker.mask) of.table
    ∙ ap (λ (c : List _). masking plan.table c was.masker.mask) of.column
    ∙ ap (λ (m : Mask). masking plan.table plan.column m) of.mask

-- what it knows, in its own words
known_by : (plan : Masking) (past : List Message) (was : Mapper BuiltinMasker) → IsMapperOf plan past was → Knows was.table was.column past was.places
known_by plan past was of =
    subst (λ (t : TableName). Knows t was.column past was.places) (sym of.table)
    (subst (λ (c : List _). Knows plan.table c past was.places) (sym of.column) of.knows)

module _ (mask : Option Masking) (past : List Message) (mapper : Option (Mapper BuiltinMasker)) (m : Message) where
  -- no mask is requested
  pub unmasked_is : AreMapped mask past mapper → mapper ≡ None → m ≡ masked_with mask past m
  unmasked_is = step mask
    where
      step : (mask : Option Masking) → AreMapped mask past mapper → mapper ≡ None → m ≡ masked_with mask past m
      step None are none = refl
      step (Some plan) (found, is, of) none = absurd (none_or_some mapper found none is)

  pub unmasked_knows : AreMapped mask past mapper → mapper ≡ None → AreMapped mask (m ∷ past) mapper
  unmasked_knows = step mask
    where
      step : (mask : Option Masking) → AreMapped mask past mapper → mapper ≡ None → AreMapped mask (m ∷ past) mapper
      step None are none = are
      step (Some plan) (found, is, of) none = absurd (none_or_some mapper found none is)

module _ (mask : Option Masking) (past : List Message) (mapper : Option (Mapper BuiltinMasker)) (was now : Mapper BuiltinMasker) (m : Message)
    {E : Type 0} (result : Result Message E) where
  -- a mapper masks the message
  pub mapper_masks : AreMapped mask past mapper → mapper ≡ Some was
      → ((ms : List Message) → Knows was.table was.column ms was.places
      → IfOk result (λ masked. masked ≡ masked_message (masking was.table was.column was.masker.mask) ms m))
      → IfOk result (λ masked. masked ≡ masked_with mask past m)
  mapper_masks = step mask
    where
      step : (mask : Option Masking) → AreMapped mask past mapper → mapper ≡ Some was
          → ((ms : List Message) → Knows was.table was.column ms was.places
          → IfOk result (λ masked. masked ≡ masked_message (masking was.table was.column was.masker.mask) ms m))
          → IfOk result (λ masked. masked ≡ masked_with mask past m)
      step None none is masks = absurd (none_or_some mapper was none is)
      step (Some plan) (found, at, by) is masks =
          let of = subst (λ (x : Mapper BuiltinMasker). IsMapperOf plan past x) (one_some found was (sym at ∙ is)) by in
          subst (λ (p : Masking). IfOk result (λ masked. masked ≡ masked_message p past m)) (plan_of plan past was of)
          (masks past (known_by plan past was of))

  -- and knows the message then
  pub mapper_knows : AreMapped mask past mapper → mapper ≡ Some was → now.table ≡ was.table → now.column ≡ was.column
      → now.masker.mask ≡ was.masker.mask
      → ((ms : List Message) → Knows was.table was.column ms was.places → OnOk result (Knows was.table was.column (m ∷ ms) now.places))
      → OnOk result (AreMapped mask (m ∷ past) (Some now))
  mapper_knows = step mask
    where
      step : (mask : Option Masking) → AreMapped mask past mapper → mapper ≡ Some was → now.table ≡ was.table → now.column ≡ was.column
          → now.masker.mask ≡ was.masker.mask
          → ((ms : List Message) → Knows was.table was.column ms was.places → OnOk result (Knows was.table was.column (m ∷ ms) now.places))
          → OnOk result (AreMapped mask (m ∷ past) (Some now))
      step None none is table column masked knows = absurd (none_or_some mapper was none is)
      step (Some plan) (found, at, by) is table column masked knows =
          let of = subst (λ (x : Mapper BuiltinMasker). IsMapperOf plan past x) (one_some found was (sym at ∙ is)) by in
          on_success result (knows past (known_by plan past was of)) (λ known. (
            now,
            refl,
            record {
              table = table ∙ of.table;
              column = column ∙ of.column;
              mask = masked ∙ of.mask;
              knows =
                  subst (λ (t : TableName). Knows t plan.column (m ∷ past) now.places) of.table
                  (subst (λ (c : List _). Knows was.table c (m ∷ past) now.places) of.column known);
            },
          ))
