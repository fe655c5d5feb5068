use Rattle.std.proofs.Common.{◌≡◌, ◌<◌, ◌-◌, ◌∙◌, min, [], ℕ, List, Some, length, get_or, sym, ap, subst, arith}
use Rattle.std.proofs.lemmas.List.{with_items_is}
use Rattle.dbl_disk.specs.declared.extent.Extent.{Extent}
use Rattle.dbl_journal.specs.Stored.{Lists, OnDisk, places_from}
use Rattle.dbl_journal.proofs.Appends.{length-places}
use Rattle.dbl_journal.proofs.Scans.{HasPlace, has_place, read_whole, slice_get_at}
use Rattle.dbl_journal.specs.Calls.{WasCalled}
use Rattle.dbl_journal.proofs.Called.{called_once}
use Rattle.dbl_journal.proofs.journal.Journal.entry.Goals as goal

pub returns-clause-found : goal.returns-clause-found
returns-clause-found g c entries lists =
    let held = subst (λ (j : OnDisk _). Lists g.D.Disk j entries) (sym c.self.view_is) lists in
    let place : Extent = c.index-place.result.now in
    let below : c.args.number < length entries = omega (arith, c.requires.within, ap length lists.places, length-places entries 8) in
    let place_is : get_or (places_from 8 entries) c.args.number place ≡ place = sym (ap (λ (l : List Extent). get_or l c.args.number place) held.places) ∙ sym c.index-place.ensures in
    let here : HasPlace held.bytes place (get_or entries c.args.number []) = subst (λ (p : Extent). HasPlace held.bytes p (get_or entries c.args.number [])) place_is (has_place held.bytes entries c.args.number place held.spelled below) in
    let long : length c.read_at.new.buffer ≡ place.length = c.read_at.auto.buffer ∙ c.deref_mut.ensures.len ∙ c.in_ok-bytes.ensures.len in
    let whole = read_whole held.bytes c.read_at.new.buffer place (get_or entries c.args.number []) c.in_ok-read_at.field-0 long (c.in_ok-read_at.ensures.told held.bytes held.told ∙ ap (λ (n : ℕ). min n (length held.bytes - place.at)) (sym c.read_at.auto.buffer)) (c.in_ok-read_at.ensures.moved held.bytes held.told) here in
    slice_get_at entries c.args.number below
    ∙ ap (λ (l : List ℕ). Some l) (sym (c.make.ensures ∙ with_items_is c.in_ok-bytes.bytes c.read_at.new.buffer (c.read_at.auto.buffer ∙ c.deref_mut.ensures.len) ∙ whole))

pub returns-clause-calls : goal.returns-clause-calls
returns-clause-calls g c = subst (λ (j : OnDisk _). WasCalled g.D.Disk 1 j.disk c.read_at.new.self) c.self.view_is (called_once g.D.Disk _ c.read_at.new.self c.read_at.new.self c.read_at.ensures.called)
