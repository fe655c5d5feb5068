-- Disks whose contents stay known, and of which no call failed.
use Rattle.std.proofs.Common.{◌≡◌, ◌∙◌, Bool, refl, subst}
use Rattle.std.specs.Prelude.{Result, Ok, Err, OnOk}
use Rattle.dbl_disk.specs.Model.{DiskModel}
use Rattle.dbl_disk.specs.Calls.{IsSteady, WritesDisk}
use Rattle.dbl_source.specs.SourceModel.Standings.{SourceState}
use Rattle.dbl_source.specs.SourceLog.declared.error.SourceError.{SourceError}
use Rattle.dbl_demo_laws.specs.Demo.{Demo, HasDemoState}
use Rattle.dbl_demo_laws.specs.Running.{StaysKnown}

module _ {D : Type 0} (model : DiskModel D) where
  pub known_self : (disk : D) → StaysKnown model disk disk
  known_self disk bytes told = ((bytes, told), refl)

  pub known_on : (first second third : D) → StaysKnown model first second → StaysKnown model second third → StaysKnown model first third
  known_on first second third one two bytes told =
      let here = one bytes told in
      let there = two here.0.0 here.0.1 in
      (there.0, there.1 ∙ here.1)

  -- a store's write that didn't fail
  pub known_written : {failed : Type 0} {live : Bool} (old new : D) → WritesDisk model failed old new live → (failed → ⊥) → StaysKnown model old new
  known_written old new writes not bytes told = (writes.told bytes told, writes.steady not bytes told)

  -- a read that didn't fail
  pub known_read : (old new : D) → model.seen new ≡ model.seen old → IsSteady model old new → StaysKnown model old new
  known_read old new same steady bytes told = ((bytes, same ∙ told), steady bytes told)

  -- of a source that is known by its parts
  pub known_from : {parts whole : Demo D} → parts ≡ whole → (disk : D) → StaysKnown model parts.journal.disk disk → StaysKnown model whole.journal.disk disk
  known_from is disk = subst (λ (s : Demo D). StaysKnown model s.journal.disk disk) is

  -- a source that reports its state knows its disk's contents
  pub steady_from : {T : Type 0} (old new : Demo D) (result : Result T SourceError) (s : SourceState) → HasDemoState model old s
      → OnOk result (StaysKnown model old.journal.disk new.journal.disk) → OnOk result (model.faults new.journal.disk ≡ model.faults old.journal.disk)
  steady_from old new (Ok x) s stands known =
      let lists = stands.1.running.lists in
      (known lists.bytes lists.told).1
  steady_from old new (Err e) s stands known = tt
