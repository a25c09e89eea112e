use Rattle.std.proofs.Common.{Err, length, sym, subst}
use Rattle.std.specs.List.{AllByRecursion}
use Rattle.mesh_model.specs.Packets.Layout.{Fits, header_of}
use Rattle.std.proofs.lemmas.Result.{err_from_is_err_and}
use Rattle.mesh_codec.specs.Frames.{seen}
use Rattle.mesh_model.specs.declared.packet.Head.{Head}
use Rattle.mesh_model.specs.Knowledge.Steps.{after_head, with_head}
use Rattle.mesh_model.specs.Knowledge.Told.{message_of}
use Rattle.node_ground.specs.KnowledgeStands.{KnowledgeStands, coming}
use Rattle.mesh_node.proofs.OgmRow.{ogm_row}
use Rattle.mesh_node.proofs.rows.packet.Goals as goal

pub returns-in_err-ogm-in-IvOgm-clause-puts : goal.returns-in_err-ogm-in-IvOgm-clause-puts
returns-in_err-ogm-in-IvOgm-clause-puts g c = λ known own number stands before owns bridged.
    let p = err_from_is_err_and c.from_residual-in_err-ogm-in-IvOgm.result c.from_residual-in_err-ogm-in-IvOgm.ensures.1 in
    rw (p.1, p.2) (ogm_row g.P.Port.takes g.P.Port.same g.P.Port.over (g.A.Algo.queries c.args.me) c.args.me own (coming c.args.came number) known (seen c.args.packet.now) c.in-IvOgm.orig
    (Err c.in_err-ogm-in-IvOgm.field-0.0) c.args.port.now c.ogm.new.port c.in-IvOgm.is (c.in_err-ogm-in-IvOgm.ensures.puts known number stands))

pub returns-in_ok-elp-in-Elp-clause-noted : goal.returns-in_ok-elp-in-Elp-clause-noted
returns-in_ok-elp-in-Elp-clause-noted g c = λ known number stands before.
    let came = coming c.args.came number in
    let packet = seen c.args.packet.now in
    subst (λ (head : Head). KnowledgeStands g.A.Algo.stands c.elp.new.kept c.args.me (after_head (g.A.Algo.queries c.args.me) c.args.me came (message_of packet) packet.tail head known)) (sym c.in-Elp.is)
    (subst (λ (head : Head). KnowledgeStands g.A.Algo.stands c.elp.new.kept c.args.me (with_head came head known)) c.in-Elp.is (c.in_ok-elp-in-Elp.ensures.ok c.args.me known number stands))

pub fragment_came-requires : goal.fragment_came-requires
fragment_came-requires g c =
    (subst (λ (h : Head). AllByRecursion Fits (header_of h (length c.args.packet.now.tail.now))) c.in-Frag.is c.requires.written.parts).1.1.1.0
