use Rattle.std.proofs.Common.{take, length, drop, min, ◌∙◌, ap}
use Rattle.std.proofs.lemmas.List.{take_rest}
use Rattle.mesh_base.proofs.Pieces.{drop-given}
use Rattle.mesh_base.proofs.memory_intake.MemIntakeIntake.read.Goals as goal

pub returns-clause-bytes : goal.returns-clause-bytes
returns-clause-bytes c =
    let intake = c.args.self.now in
    let buf = length c.args.buf.now in
    let plan = c.next_fails.new.self in
    let left = take_rest c.deref.result.now intake.given ∙ ap (drop intake.given) c.deref.ensures.value in
    drop-given intake.bytes.items c.give-count.new.buf intake.given c.give-count.result plan.piece buf
    plan.some c.requires.some
    (c.give-count.ensures.count ∙ ap (λ l. min plan.piece (min (length l) buf)) left)
    (c.give-count.ensures.given ∙ ap (take c.give-count.result) left)
