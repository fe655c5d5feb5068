-- Where memory ran out, some first ones of a call's commits were added to a played source, and nothing else.
use Rattle.std.proofs.Common.{◌≡◌, ◌∙◌, ◌+◌, ◌≤◌, inl, inr, ℕ, false, true, List, ◌++◌, length, map, take, drop, refl, sym, ap, subst, arith, append_assoc, length-append}
use Rattle.std.specs.Prelude.{◌↔◌, Result, Ok, Err, IsErr, OnOk, OnErr}
use Rattle.std.proofs.lemmas.List.{take_all, take-append-drop, take-append-le}
use Rattle.dbl_base.specs.Memory.{Plan}
use Rattle.dbl_pgmsg.specs.declared.messages.Message.{Message}
use Rattle.dbl_source_model.proofs.ModelHistoryRowLemmas.{take-length-append}
use Rattle.dbl_source_log.specs.declared.logged.Logged.{Logged}
use Rattle.dbl_source_log.specs.declared.logged.Logged.TheVariants.{Changes}
use Rattle.dbl_source_scripted.specs.Played.{Played, before_of, inside_of, commits_with, commits_before, IsPlannedToFail, past_move, with_counted_call, committed, with_release, with_fault}
use Rattle.dbl_source_scripted.specs.Laws.{FirstCommitsAreFair}
use Rattle.dbl_source_scripted.proofs.PlayLemmas.{fair_same}
use Rattle.dbl_source_scripted.specs.Steps.{HasPlayed, WasFair, HasCountedCall, AddedFirst}

-- these commits are after the log, and nothing else changed but the plan
abbrev pub HasAdded : List Logged → Played → Played → Type 0
HasAdded commits old new = new ≡ record old { log = old.log ++ commits; plan = new.plan }

added_so : (old new : Played) (commits front : List Logged) (count : ℕ) → count ≤ length commits → take count commits ≡ front → HasCountedCall old new.plan → HasAdded front old new → AddedFirst commits old new
added_so old new commits front count few first counts is = record {
  count = count;
  few = few;
  counts = counts;
  is = is ∙ ap (λ (l : List Logged). record old { log = old.log ++ l; plan = new.plan }) (sym first);
}

-- the plan after a call that was counted
pub counted_so : {T E : Type 0} (old : Played) (plan : Plan) (r : Result T E) → (IsErr r ↔ IsPlannedToFail old) → OnOk r (plan ≡ (with_counted_call old).plan) → OnErr r (plan ≡ (with_fault (with_counted_call old)).plan) → HasCountedCall old plan
counted_so old plan (Ok x) listed ok err = inl (λ it. (let never : false ≡ true = listed.1 it in cc), ok)
counted_so old plan (Err e) listed ok err = inr (listed.0 refl, err)

-- a call was counted, and then some of other clients' commits were added
pub added_counted : (old mid new : Played) (before : List Logged) → mid ≡ record old { plan = mid.plan } → HasCountedCall old mid.plan → new ≡ record mid { log = new.log } → HasPlayed before mid.log new.log → AddedFirst before old new
added_counted old mid new before begun counts kept subsequent =
    let front : List Logged = take subsequent.count before in
    let plan : new.plan ≡ mid.plan = ap (λ (p : Played). p.plan) kept in
    let made : Plan → Played = λ p. record old { log = old.log ++ front; plan = p } in
    record {
      count = subsequent.count;
      few = subsequent.few;
      counts = subst (HasCountedCall old) (sym plan) counts;
      is = kept ∙ ap (λ (l : List Logged). record mid { log = l }) subsequent.is ∙ ap (λ (p : Played). record p { log = p.log ++ front }) begun ∙ ap made (sym plan);
    }

-- of a source whose move is past
pub added_after : (old mid new : Played) (before : List (List Message)) → mid ≡ past_move old → before ≡ before_of old → AddedFirst (commits_with before mid) mid new → AddedFirst (commits_before old) (past_move old) new
added_after old mid new before past items added =
    subst (λ (b : List (List Message)). AddedFirst (commits_with b (past_move old)) (past_move old) new) items (subst (λ (m : Played). AddedFirst (commits_with before m) m new) past added)

-- of a call that was to add others besides
pub added_front : (old new : Played) (before inside : List Logged) → AddedFirst before old new → AddedFirst (before ++ inside) old new
added_front old new before inside added =
    added_so old new (before ++ inside) (take added.count before) added.count (omega (arith, added.few, length-append before inside)) (take-append-le added.count before inside added.few) added.counts added.is

-- the commits before a call that isn't to fail stand, and some of those inside of it
pub added_inside : (old mid new : Played) (inside : List Logged) → (¬ IsPlannedToFail old) → mid ≡ with_release old → new ≡ record mid { log = new.log } → HasPlayed inside mid.log new.log → AddedFirst (commits_before old ++ inside) (past_move old) new
added_inside old mid new inside unlisted begun kept subsequent =
    let before : List Logged = commits_before old in
    let front : List Logged = take subsequent.count inside in
    let there : new ≡ record (with_release old) { log = (old.log ++ before) ++ front } =
    kept ∙ ap (λ (l : List Logged). record mid { log = l }) subsequent.is ∙ ap (λ (p : Played). record p { log = p.log ++ front }) begun in
    let plan : new.plan ≡ (with_release old).plan = ap (λ (p : Played). p.plan) there in
    let made : List Logged → Plan → Played = λ l p. record (past_move old) { log = l; plan = p } in
    let is : HasAdded (before ++ front) (past_move old) new = there ∙ ap (λ (l : List Logged). made l (with_release old).plan) (append_assoc old.log before front) ∙ ap (made (old.log ++ (before ++ front))) (sym plan) in
    added_so (past_move old) new (before ++ inside) (before ++ front) (length before + subsequent.count) (omega (arith, subsequent.few, length-append before inside)) (take-length-append before inside subsequent.count) (inl (unlisted, plan)) is

-- the commits before it all stand
pub added_all : (old new : Played) → (¬ IsPlannedToFail old) → new ≡ with_release old → AddedFirst (commits_before old) (past_move old) new
added_all old new unlisted is =
    let before : List Logged = commits_before old in
    let plan : new.plan ≡ (with_release old).plan = ap (λ (p : Played). p.plan) is in
    let made : Plan → Played = λ p. record (past_move old) { log = old.log ++ before; plan = p } in
    added_so (past_move old) new before before (length before) (omega arith) (take_all (length before) before (omega arith)) (inl (unlisted, plan)) (is ∙ ap made (sym plan))

-- all of them do
pub added_both : (old new : Played) → (¬ IsPlannedToFail old) → new ≡ committed (map Changes (inside_of old)) (with_release old) → AddedFirst (commits_before old ++ map Changes (inside_of old)) (past_move old) new
added_both old new unlisted is =
    let inside : List Logged = map Changes (inside_of old) in
    added_inside old (with_release old) new inside unlisted refl
    (is ∙ ap (λ (l : List Logged). record (with_release old) { log = l }) (sym (ap (λ (p : Played). p.log) is)))
    (record {
      count = length inside;
      few = omega arith;
      is = ap (λ (p : Played). p.log) is ∙ ap (λ (l : List Logged). (with_release old).log ++ l) (sym (take_all (length inside) inside (omega arith)));
    })

-- ---- a conforming source

pub first_fair : FirstCommitsAreFair
first_fair commits old new returned added fair =
    let front : List Logged = take added.count commits in
    let rest : List Logged = drop added.count commits in
    let whole : old.log ++ commits ≡ (old.log ++ front) ++ rest =
    ap (λ (l : List Logged). old.log ++ l) (sym (take-append-drop added.count commits)) ∙ sym (append_assoc old.log front rest) in
    subst WasFair (sym added.is)
    (fair_same old.tables old.tables (old.log ++ front) rest (old.log ++ commits) old.asked old.asked old.rows old.rows refl whole refl refl
    (λ n question found. omega (arith, returned n question found, length-append old.log front)) fair)
