use Rattle.std.proofs.Common.{◌∷◌, Err, List, Ok, subst}
use Rattle.std.proofs.lemmas.Result.{err_from_is_err_and}
use Rattle.std.specs.Prelude.{IfSome}
use Rattle.mesh_frag.specs.Frags.{Answers, FragsStand, part_of_head}
use Rattle.mesh_model.specs.declared.act.Act.{Act}
use Rattle.mesh_model.specs.declared.packet.Head.{Head}
use Rattle.mesh_model.specs.Acts.FragmentRows.{carried_here}
use Rattle.mesh_model.specs.Knowledge.PutTogether.{put_together, with_part}
use Rattle.node_ground.specs.KnowledgeStands.{place}
use Rattle.node_ground.specs.Puts.{Puts}
use Rattle.node_ground.proofs.PutsLemmas.{stops_free}
use Rattle.mesh_node.specs.Fragments.{part_seen}
use Rattle.mesh_node.proofs.FragmentLemmas.{part_stands, whole_acts_are}
use Rattle.mesh_node.proofs.fragments.here.Goals as goal

pub returns-in_err-part-clause-puts : goal.returns-in_err-part-clause-puts
returns-in_err-part-clause-puts g c = λ known own stands past owns bridged.
    let p = err_from_is_err_and c.from_residual.result c.from_residual.ensures.1 in
    let call = part_seen c.args.at.now c.args.fragment c.args.tail.now in
    rw (p.1, p.2) (stops_free g.P.Port.takes g.P.Port.same g.P.Port.over c.args.port.now
    (carried_here (g.A.Algo.queries c.args.at.me) known own.mentions own.bridge (place c.args.at) (put_together call known.parts)) (g.met.P.Port.same_refl c.args.port.now))

pub returns-in_err-whole-in-Whole-clause-puts : goal.returns-in_err-whole-in-Whole-clause-puts
returns-in_err-whole-in-Whole-clause-puts g c = λ known own stands past owns bridged.
    let p = err_from_is_err_and c.from_residual-in_err-whole-in-Whole.result c.from_residual-in_err-whole-in-Whole.ensures.1 in
    let q = g.A.Algo.queries c.args.at.me in
    let call = part_seen c.args.at.now c.args.fragment c.args.tail.now in
    let noted = subst (λ (h : Head). IfSome (part_of_head c.args.at.now h c.args.tail.now) (λ call. FragsStand c.part.new.self (call ∷ known.parts))) c.head-head.ensures (c.in_ok-part.ensures.ok known.parts stands.parts past.parts) in
    let answered = subst (λ (h : Head). IfSome (part_of_head c.args.at.now h c.args.tail.now) (λ call. Answers call known.parts c.in_ok-part.field-0)) c.head-head.ensures (c.in_ok-part.ensures.answered known.parts stands.parts past.parts) in
    let whole = subst (Answers call known.parts) c.in-Whole.is answered in
    rw (p.1, p.2)
    (subst (λ (acts : List Act). Puts g.P.Port.takes g.P.Port.same g.P.Port.over c.args.port.now acts (Err c.in_err-whole-in-Whole.field-0.0) c.whole.new.port)
    (whole_acts_are q call known own.mentions own.bridge (place c.args.at) c.in-Whole.bytes c.as_slice.result.now whole c.as_slice.ensures.value)
    (c.in_err-whole-in-Whole.ensures.puts (with_part call known) own (part_stands g.A.Algo.stands c.args.kept.now c.part.new.self c.args.at.me call known stands noted) past.store owns bridged))

pub returns-in_ok-whole-in-Whole-clause-puts : goal.returns-in_ok-whole-in-Whole-clause-puts
returns-in_ok-whole-in-Whole-clause-puts g c = λ known own stands past owns bridged.
    let q = g.A.Algo.queries c.args.at.me in
    let call = part_seen c.args.at.now c.args.fragment c.args.tail.now in
    let noted = subst (λ (h : Head). IfSome (part_of_head c.args.at.now h c.args.tail.now) (λ call. FragsStand c.part.new.self (call ∷ known.parts))) c.head-head.ensures (c.in_ok-part.ensures.ok known.parts stands.parts past.parts) in
    let answered = subst (λ (h : Head). IfSome (part_of_head c.args.at.now h c.args.tail.now) (λ call. Answers call known.parts c.in_ok-part.field-0)) c.head-head.ensures (c.in_ok-part.ensures.answered known.parts stands.parts past.parts) in
    let whole = subst (Answers call known.parts) c.in-Whole.is answered in
    subst (λ (acts : List Act). Puts g.P.Port.takes g.P.Port.same g.P.Port.over c.args.port.now acts (Ok tt) c.whole.new.port)
    (whole_acts_are q call known own.mentions own.bridge (place c.args.at) c.in-Whole.bytes c.as_slice.result.now whole c.as_slice.ensures.value)
    (c.in_ok-whole-in-Whole.ensures.puts (with_part call known) own (part_stands g.A.Algo.stands c.args.kept.now c.part.new.self c.args.at.me call known stands noted) past.store owns bridged)
