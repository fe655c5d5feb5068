use Rattle.std.proofs.Common.{◌≡◌, ◌∙◌, ◌+◌, ◌<◌, ◌≤◌, ℕ, List, length, drop, get_or, sym, ap, arith}
use Rattle.std.proofs.lemmas.List.{at_drop_all, append-nil}
use Rattle.std.specs.Prelude.{Ok, Some, nat_eq}
use Rattle.std.specs.HashMap.{get}
use Rattle.dbl_model_commit.specs.declared.message_parts.Target.{Target}
use Rattle.dbl_model_commit.specs.Stated.{targets_at}
use Rattle.dbl_txn_changes.proofs.Loops.{with_front}
use Rattle.dbl_txn_pieces.proofs.Targets.{target_more}
use Rattle.dbl_txn_pieces.proofs.reader.targets_in.Goals as goal

pub loop-oid-preserved : goal.loop-oid-preserved
loop-oid-preserved c = λ infos ms recalls. (
    let oids = c.args.oids.now.items in
    let place = c.loop-oid.oid-index in
    let oid = get_or oids place 0 in
    let front = c.loop-oid.targets.items in
    let known = c.in-Some.known.now in
    let there : Some known ≡ get nat_eq c.args.relations.now oid =
    c.in-Some.ensures.value ∙ ap (λ (l : List ℕ). get nat_eq c.args.relations.now (get_or l place 0)) c.deref-oid-items.ensures.value in
    let lt : place < length oids = omega (arith, c.loop-oid-test.true, c.deref-oid-items.ensures.len) in
    ap (λ (l : List Target). with_front l (targets_at infos (drop (place + 1) oids) ms)) c.in_ok-push.ensures.items
    ∙ target_more infos ms oids place front known _ (c.loop-oid.invariant infos ms recalls) lt (there ∙ recalls.each oid))

pub returns : goal.returns
returns c = λ infos ms recalls. (
    let oids = c.args.oids.now.items in
    let place = c.loop-oid.oid-index in
    let front = c.loop-oid.targets.items in
    let all : length oids ≤ place = omega (arith, c.loop-oid-test.false, c.deref-oid-items.ensures.len) in
    sym (c.loop-oid.invariant infos ms recalls)
    ∙ (at_drop_all (λ (l : List ℕ). with_front front (targets_at infos l ms)) oids place all
    ∙ ap (λ (l : List Target). Ok l) (append-nil front ∙ sym c.make.ensures)))
