use Rattle.std.proofs.Common.{Err, Ok, refl, subst}
use Rattle.std.proofs.lemmas.Result.{err_from_is_err_and}
use Rattle.mesh_model.specs.Clients.Limits.{passed_limit}
use Rattle.mesh_model.specs.Clients.Log.{Join, Line}
use Rattle.mesh_model.specs.Knowledge.Steps.{knowledge}
use Rattle.mesh_node.specs.NodeStands.{MayFollow}
use Rattle.node_ground.proofs.LeavesLemmas.{answered_leaves}
use Rattle.mesh_node.proofs.node.Node.carry_out.Goals as goal

-- ---- ticks

pub take_tick-requires : goal.take_tick-requires
take_tick-requires g c =
    let may = c.requires in
    (may.me, may.log, may.stand.keeps, may.later, subst (MayFollow (knowledge (g.A.Algo.queries may.me) may.me may.log)) c.in-Tick.is may.follows)

pub returns-in_err-take_tick-in-Tick-clause-puts : goal.returns-in_err-take_tick-in-Tick-clause-puts
returns-in_err-take_tick-in-Tick-clause-puts g c = λ me log number is late.
    let p = err_from_is_err_and c.from_residual.result c.from_residual.ensures.1 in
    rw (p.1, p.2, c.in-Tick.is) (c.in_err-take_tick-in-Tick.ensures.puts me log is late)

pub returns-in_ok-take_tick-in-Tick-clause-puts : goal.returns-in_ok-take_tick-in-Tick-clause-puts
returns-in_ok-take_tick-in-Tick-clause-puts g c = λ me log number is late.
    rw c.in-Tick.is (c.in_ok-take_tick-in-Tick.ensures.puts me log is late)

pub returns-in_ok-take_tick-in-Tick-clause-noted : goal.returns-in_ok-take_tick-in-Tick-clause-noted
returns-in_ok-take_tick-in-Tick-clause-noted g c = λ me log number is late.
    rw c.in-Tick.is (c.in_ok-take_tick-in-Tick.ensures.noted me log is late)

-- ---- link frames

pub take_link-requires : goal.take_link-requires
take_link-requires g c =
    let may = c.requires in
    (may.me, may.log, may.stand.keeps, may.later)

pub returns-in_err-take_link-in-Link-clause-puts : goal.returns-in_err-take_link-in-Link-clause-puts
returns-in_err-take_link-in-Link-clause-puts g c = λ me log number is late.
    let p = err_from_is_err_and c.from_residual-in_err-take_link-in-Link.result c.from_residual-in_err-take_link-in-Link.ensures.1 in
    rw (p.1, p.2, c.in-Link.is) (c.in_err-take_link-in-Link.ensures.puts me log number is late)

pub returns-in_ok-take_link-in-Link-clause-puts : goal.returns-in_ok-take_link-in-Link-clause-puts
returns-in_ok-take_link-in-Link-clause-puts g c = λ me log number is late.
    rw c.in-Link.is (c.in_ok-take_link-in-Link.ensures.puts me log number is late)

pub returns-in_ok-take_link-in-Link-clause-noted : goal.returns-in_ok-take_link-in-Link-clause-noted
returns-in_ok-take_link-in-Link-clause-noted g c = λ me log number is late.
    rw c.in-Link.is (c.in_ok-take_link-in-Link.ensures.noted me log number is late)

-- ---- frames of a LAN

pub take_lan-requires : goal.take_lan-requires
take_lan-requires g c =
    let may = c.requires in
    (may.me, may.log, may.stand.keeps, may.later)

pub returns-in_err-take_lan-in-Lan-clause-puts : goal.returns-in_err-take_lan-in-Lan-clause-puts
returns-in_err-take_lan-in-Lan-clause-puts g c = λ me log number is late.
    let p = err_from_is_err_and c.from_residual-in_err-take_lan-in-Lan.result c.from_residual-in_err-take_lan-in-Lan.ensures.1 in
    rw (p.1, p.2, c.in-Lan.is) (c.in_err-take_lan-in-Lan.ensures.puts me log is late)

pub returns-in_ok-take_lan-in-Lan-clause-puts : goal.returns-in_ok-take_lan-in-Lan-clause-puts
returns-in_ok-take_lan-in-Lan-clause-puts g c = λ me log number is late.
    rw c.in-Lan.is (c.in_ok-take_lan-in-Lan.ensures.puts me log is late)

pub returns-in_ok-take_lan-in-Lan-clause-noted : goal.returns-in_ok-take_lan-in-Lan-clause-noted
returns-in_ok-take_lan-in-Lan-clause-noted g c = λ me log number is late.
    rw c.in-Lan.is (c.in_ok-take_lan-in-Lan.ensures.noted me log is late)

-- ---- what lines give

pub returns-in_err-attach-in-Attach-clause-puts : goal.returns-in_err-attach-in-Attach-clause-puts
returns-in_err-attach-in-Attach-clause-puts g c = λ me log number is late.
    let p = err_from_is_err_and c.from_residual-in_err-attach-in-Attach.result c.from_residual-in_err-attach-in-Attach.ensures.1 in
    rw (p.1, p.2, c.in-Attach.is, c.in_err-attach-in-Attach.ensures.memory) (g.met.P.Port.same_refl c.args.port.now, tt)

pub returns-in_ok-attach-in-Attach-clause-puts : goal.returns-in_ok-attach-in-Attach-clause-puts
returns-in_ok-attach-in-Attach-clause-puts g c = λ me log number is late. rw c.in-Attach.is refl

pub returns-in_ok-attach-in-Attach-clause-noted : goal.returns-in_ok-attach-in-Attach-clause-noted
returns-in_ok-attach-in-Attach-clause-noted g c = λ me log number is late.
    rw c.in-Attach.is (c.in_ok-attach-in-Attach.ensures.noted me log is late)

pub take_frame-requires : goal.take_frame-requires
take_frame-requires g c =
    let may = c.requires in
    (may.me, may.log, may.stand.keeps, may.later)

pub returns-in_err-take_frame-in-Frame-clause-puts : goal.returns-in_err-take_frame-in-Frame-clause-puts
returns-in_err-take_frame-in-Frame-clause-puts g c = λ me log number is late.
    let p = err_from_is_err_and c.from_residual-in_err-take_frame-in-Frame.result c.from_residual-in_err-take_frame-in-Frame.ensures.1 in
    rw (p.1, p.2, c.in-Frame.is) (c.in_err-take_frame-in-Frame.ensures.puts me log is late)

pub returns-in_ok-take_frame-in-Frame-clause-puts : goal.returns-in_ok-take_frame-in-Frame-clause-puts
returns-in_ok-take_frame-in-Frame-clause-puts g c = λ me log number is late.
    rw c.in-Frame.is (c.in_ok-take_frame-in-Frame.ensures.puts me log is late)

pub returns-in_ok-take_frame-in-Frame-clause-noted : goal.returns-in_ok-take_frame-in-Frame-clause-noted
returns-in_ok-take_frame-in-Frame-clause-noted g c = λ me log number is late.
    rw c.in-Frame.is (c.in_ok-take_frame-in-Frame.ensures.noted me log is late)

pub returns-in_err-take_question-in-Arp-clause-puts : goal.returns-in_err-take_question-in-Arp-clause-puts
returns-in_err-take_question-in-Arp-clause-puts g c = λ me log number is late.
    let p = err_from_is_err_and c.from_residual-in_err-take_question-in-Arp.result c.from_residual-in_err-take_question-in-Arp.ensures.1 in
    rw (p.1, p.2, c.in-Arp.is) (c.in_err-take_question-in-Arp.ensures.puts me log is late)

pub returns-in_ok-take_question-in-Arp-clause-puts : goal.returns-in_ok-take_question-in-Arp-clause-puts
returns-in_ok-take_question-in-Arp-clause-puts g c = λ me log number is late.
    rw c.in-Arp.is (c.in_ok-take_question-in-Arp.ensures.puts me log is late)

pub returns-in_ok-take_question-in-Arp-clause-noted : goal.returns-in_ok-take_question-in-Arp-clause-noted
returns-in_ok-take_question-in-Arp-clause-noted g c = λ me log number is late.
    rw c.in-Arp.is (c.in_ok-take_question-in-Arp.ensures.noted me log is late)

pub take_call-requires : goal.take_call-requires
take_call-requires g c =
    let may = c.requires in
    (may.me, may.log, may.stand.keeps, may.later)

pub returns-in_err-take_call-in-Dhcp-clause-puts : goal.returns-in_err-take_call-in-Dhcp-clause-puts
returns-in_err-take_call-in-Dhcp-clause-puts g c = λ me log number is late.
    let p = err_from_is_err_and c.from_residual-in_err-take_call-in-Dhcp.result c.from_residual-in_err-take_call-in-Dhcp.ensures.1 in
    rw (p.1, p.2, c.in-Dhcp.is) (c.in_err-take_call-in-Dhcp.ensures.puts me log is late)

pub returns-in_ok-take_call-in-Dhcp-clause-puts : goal.returns-in_ok-take_call-in-Dhcp-clause-puts
returns-in_ok-take_call-in-Dhcp-clause-puts g c = λ me log number is late.
    rw c.in-Dhcp.is (c.in_ok-take_call-in-Dhcp.ensures.puts me log is late)

pub returns-in_ok-take_call-in-Dhcp-clause-noted : goal.returns-in_ok-take_call-in-Dhcp-clause-noted
returns-in_ok-take_call-in-Dhcp-clause-noted g c = λ me log number is late.
    rw c.in-Dhcp.is (c.in_ok-take_call-in-Dhcp.ensures.noted me log is late)

pub returns-in_err-join_group-in-Join-clause-puts : goal.returns-in_err-join_group-in-Join-clause-puts
returns-in_err-join_group-in-Join-clause-puts g c = λ me log number is late.
    let p = err_from_is_err_and c.from_residual-in_err-join_group-in-Join.result c.from_residual-in_err-join_group-in-Join.ensures.1 in
    rw (p.1, p.2, c.in-Join.is) (answered_leaves g.P.Port.takes g.P.Port.same g.P.Port.over (passed_limit me log c.args.now (Line (Join c.in-Join.key))) c.args.port.now
    (Err c.in_err-join_group-in-Join.field-0.0) (g.met.P.Port.same_refl c.args.port.now) (c.in_err-join_group-in-Join.ensures.answers me log is late))

pub returns-in_ok-join_group-in-Join-clause-puts : goal.returns-in_ok-join_group-in-Join-clause-puts
returns-in_ok-join_group-in-Join-clause-puts g c = λ me log number is late.
    rw c.in-Join.is (answered_leaves g.P.Port.takes g.P.Port.same g.P.Port.over (passed_limit me log c.args.now (Line (Join c.in-Join.key))) c.args.port.now
    (Ok tt) (g.met.P.Port.same_refl c.args.port.now) (c.in_ok-join_group-in-Join.ensures.answers me log is late))

pub returns-in_ok-join_group-in-Join-clause-noted : goal.returns-in_ok-join_group-in-Join-clause-noted
returns-in_ok-join_group-in-Join-clause-noted g c = λ me log number is late.
    rw c.in-Join.is (c.in_ok-join_group-in-Join.ensures.noted me log is late)

-- ---- ping and traceroute

pub returns-in_err-take_session-in-Ping-clause-puts : goal.returns-in_err-take_session-in-Ping-clause-puts
returns-in_err-take_session-in-Ping-clause-puts g c = λ me log number is late.
    let p = err_from_is_err_and c.from_residual-in_err-take_session-in-Ping.result c.from_residual-in_err-take_session-in-Ping.ensures.1 in
    rw (p.1, p.2, c.in-Ping.is) (c.in_err-take_session-in-Ping.ensures.puts me log is)

pub returns-in_ok-take_session-in-Ping-clause-puts : goal.returns-in_ok-take_session-in-Ping-clause-puts
returns-in_ok-take_session-in-Ping-clause-puts g c = λ me log number is late.
    rw c.in-Ping.is (c.in_ok-take_session-in-Ping.ensures.puts me log is)

pub returns-in_ok-take_session-in-Ping-clause-noted : goal.returns-in_ok-take_session-in-Ping-clause-noted
returns-in_ok-take_session-in-Ping-clause-noted g c = λ me log number is late.
    rw c.in-Ping.is (c.in_ok-take_session-in-Ping.ensures.noted me log is late)

pub returns-in_err-take_session-in-Trace-clause-puts : goal.returns-in_err-take_session-in-Trace-clause-puts
returns-in_err-take_session-in-Trace-clause-puts g c = λ me log number is late.
    let p = err_from_is_err_and c.from_residual-in_err-take_session-in-Trace.result c.from_residual-in_err-take_session-in-Trace.ensures.1 in
    rw (p.1, p.2, c.in-Trace.is) (c.in_err-take_session-in-Trace.ensures.puts me log is)

pub returns-in_ok-take_session-in-Trace-clause-puts : goal.returns-in_ok-take_session-in-Trace-clause-puts
returns-in_ok-take_session-in-Trace-clause-puts g c = λ me log number is late.
    rw c.in-Trace.is (c.in_ok-take_session-in-Trace.ensures.puts me log is)

pub returns-in_ok-take_session-in-Trace-clause-noted : goal.returns-in_ok-take_session-in-Trace-clause-noted
returns-in_ok-take_session-in-Trace-clause-noted g c = λ me log number is late.
    rw c.in-Trace.is (c.in_ok-take_session-in-Trace.ensures.noted me log is late)

-- ---- facts

pub returns-in_err-put_fact-in-Put-clause-puts : goal.returns-in_err-put_fact-in-Put-clause-puts
returns-in_err-put_fact-in-Put-clause-puts g c = λ me log number is late.
    let p = err_from_is_err_and c.from_residual-in_err-put_fact-in-Put.result c.from_residual-in_err-put_fact-in-Put.ensures.1 in
    rw (p.1, p.2, c.in-Put.is, c.in_err-put_fact-in-Put.ensures.memory) (g.met.P.Port.same_refl c.args.port.now, tt)

pub returns-in_ok-put_fact-in-Put-clause-puts : goal.returns-in_ok-put_fact-in-Put-clause-puts
returns-in_ok-put_fact-in-Put-clause-puts g c = λ me log number is late. rw c.in-Put.is refl

pub returns-in_ok-put_fact-in-Put-clause-noted : goal.returns-in_ok-put_fact-in-Put-clause-noted
returns-in_ok-put_fact-in-Put-clause-noted g c = λ me log number is late.
    rw c.in-Put.is (c.in_ok-put_fact-in-Put.ensures.noted me log is late)

pub returns-in_err-get_facts-in-Get-clause-puts : goal.returns-in_err-get_facts-in-Get-clause-puts
returns-in_err-get_facts-in-Get-clause-puts g c = λ me log number is late.
    let p = err_from_is_err_and c.from_residual-in_err-get_facts-in-Get.result c.from_residual-in_err-get_facts-in-Get.ensures.1 in
    rw (p.1, p.2, c.in-Get.is) (c.in_err-get_facts-in-Get.ensures.puts me log is)

pub returns-in_ok-get_facts-in-Get-clause-puts : goal.returns-in_ok-get_facts-in-Get-clause-puts
returns-in_ok-get_facts-in-Get-clause-puts g c = λ me log number is late.
    rw c.in-Get.is (c.in_ok-get_facts-in-Get.ensures.puts me log is)

pub returns-in_ok-get_facts-in-Get-clause-noted : goal.returns-in_ok-get_facts-in-Get-clause-noted
returns-in_ok-get_facts-in-Get-clause-noted g c = λ me log number is late.
    rw c.in-Get.is (c.in_ok-get_facts-in-Get.ensures.noted me log is late)

-- ---- reboots

pub returns-in_err-take_reboot-in-Reboot-clause-puts : goal.returns-in_err-take_reboot-in-Reboot-clause-puts
returns-in_err-take_reboot-in-Reboot-clause-puts g c = λ me log number is late.
    let p = err_from_is_err_and c.from_residual-in_err-take_reboot-in-Reboot.result c.from_residual-in_err-take_reboot-in-Reboot.ensures.1 in
    rw (p.1, p.2, c.in-Reboot.is) (c.in_err-take_reboot-in-Reboot.ensures.puts me log is)

pub returns-in_ok-take_reboot-in-Reboot-clause-puts : goal.returns-in_ok-take_reboot-in-Reboot-clause-puts
returns-in_ok-take_reboot-in-Reboot-clause-puts g c = λ me log number is late.
    rw c.in-Reboot.is (c.in_ok-take_reboot-in-Reboot.ensures.puts me log is)

pub returns-in_ok-take_reboot-in-Reboot-clause-noted : goal.returns-in_ok-take_reboot-in-Reboot-clause-noted
returns-in_ok-take_reboot-in-Reboot-clause-noted g c = λ me log number is late.
    rw c.in-Reboot.is (c.in_ok-take_reboot-in-Reboot.ensures.noted me log is late)
