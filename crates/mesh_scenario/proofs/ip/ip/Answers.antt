use Rattle.std.proofs.Common.{rules}
use Rattle.mesh_scenario.proofs.IpLemmas.{ip_of-long}
use Rattle.mesh_scenario.proofs.ip.ip.Goals as goal

pub returns-in-Some : goal.returns-in-Some
returns-in-Some c =
    let last = c.in-Some.field-0 in
    ip_of-long c.args.word.now c.in_ok-a.a.now c.in_ok-b.b.now c.in_ok-c.c.now last.0.now last.1.now (search rules)
