use Rattle.std.proofs.Common.{◌&&◌, ap, sym, ◌∙◌, subst}
use Rattle.mesh_model.specs.Packets.Containers.{containers_of}
use Rattle.mesh_model.specs.Packets.Contents.{first_part}
use Rattle.mesh_model.specs.Packets.Numbers.{full_table_flag, response_flag}
use Rattle.mesh_model.specs.Routes.Ogm.{has_flag}
use Rattle.node_ground.specs.KnowledgeStands.{KnowledgeStands}
use Rattle.node_tables.proofs.KnownLemmas.{part_taken}
use Rattle.node_tables.proofs.containers.part_here.Goals as goal

pub returns : goal.returns
returns g c = λ me known stands.
    let flags = ap (λ f. has_flag response_flag f && has_flag full_table_flag f) (sym c.flags.ensures) ∙ sym c.is_of_full_answer.ensures ∙ c.if-not-is_of_full_answer.false in
    subst (λ after. KnowledgeStands g.A.Algo.stands c.take_answer.new.kept me after)
    (part_taken (g.A.Algo.queries me) c.args.now c.args.src (first_part (containers_of c.args.tail.now)) c.in-Some.table c.in-Some.number c.in-Some.count known c.in-Some.ensures flags)
    (c.in_ok-take_answer.ensures me known stands)
