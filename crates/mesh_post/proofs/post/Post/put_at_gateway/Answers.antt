use Rattle.std.proofs.Common.{◌≡◌, Some, sym, ap, ◌∙◌}
use Rattle.mesh_post.proofs.ActLemmas.{has_put, has_put_none}
use Rattle.mesh_post.proofs.post.Post.put_at_gateway.Goals as goal

pub returns-in_default-clause-taken : goal.returns-in_default-clause-taken
returns-in_default-clause-taken c = λ queries older last ticks mesh step may.
    has_put_none queries c.args.self.now older last ticks c.args.sender mesh c.args.bytes c.args.log.now step (sym c.lan_of.ensures ∙ c.in_default.is)

pub returns-clause-taken : goal.returns-clause-taken
returns-clause-taken c = λ queries older last ticks mesh step may.
    let same : c.in-Ok.lan ≡ c.in-Some.at = c.in-Ok.ensures.is in
    has_put queries c.args.self.now c.put_on.new.self older last ticks c.args.sender mesh c.args.bytes c.in-Ok.lan c.args.log.now c.put_on.new.log step (sym c.lan_of.ensures ∙ c.in-Some.is ∙ ap Some (sym same))
    (c.in_ok-put_on.ensures.put queries older last ticks mesh step may.late may.soon)
