use Rattle.std.proofs.Common.{rules, ◌≡◌, ◌≢◌, true, false, None, is_some, refl}
use Rattle.std.proofs.lemmas.Result.{on_ok_weaker}
use Rattle.dbl_frames_heads.specs.declared.error.FrameError.TheVariants.{Memory}
use Rattle.dblog_streams.proofs.FrameInputLemmas.{read_past, read_more, read_fault, not_some, not_none}
use Rattle.dblog_streams.proofs.frames.Stream.feed.Goals as goal

pub returns-then-is_some : goal.returns-then-is_some
returns-then-is_some c = λ bytes read.
    let some : is_some c.args.self.now.fault ≡ true = search rules in
    read_past bytes c.args.piece.now c.args.self.now _ read (not_none _ some) refl refl

pub returns-in-Ok : goal.returns-in-Ok
returns-in-Ok c = λ bytes read.
    let none : is_some c.args.self.now.fault ≡ false = search rules in
    let clean : c.args.self.now.fault ≡ None = not_some _ none in
    on_ok_weaker c.add_payloads.result
    (λ adds. read_more bytes c.args.piece.now c.new-frames.result.items c.feed.new.out.items c.args.self.now _ read clean clean refl c.new-frames.ensures.items
    (λ frames fed. c.in-Ok.ensures.fed bytes frames fed) adds) c.add_payloads.ensures

pub returns : goal.returns
returns c = λ bytes read.
    let none : is_some c.args.self.now.fault ≡ false = search rules in
    let other : c.in-Err.fault ≢ Memory = search rules in
    read_fault bytes c.args.piece.now c.in-Err.fault c.new-frames.result.items c.feed.new.out.items c.args.self.now _ read (not_some _ none) refl refl
    (λ frames fed. c.in-Err.ensures.fault bytes frames fed other)
