use Rattle.std.proofs.Common.{ℕ, ap, sym, ◌∙◌, arith}
use Rattle.std.specs.List.{count_by}
use Rattle.mesh_model.specs.Clients.Mentions.{mentions}
use Rattle.mesh_model.specs.Commits.History.{history}
use Rattle.mesh_base.specs.declared.address.Mac.{Mac}
use Rattle.mesh_model.specs.Knowledge.Steps.{knowledge}
use Rattle.mesh_model.specs.Routes.Algorithms.{queries_of}
use Rattle.mesh_model.specs.Routes.Queries.{Queries}
use Rattle.mesh_model.specs.Run.KnownTables.{parts_at}
use Rattle.mesh_scene.proofs.NetLemmas.{net_sound}
use Rattle.mesh_scene.proofs.scene.Scene.node_counts.Goals as goal

pub overflow_cast-place : goal.overflow_cast-place
overflow_cast-place g c =
    let at = c.requires.somewhere in
    let state = at.state in
    let sound = net_sound g.A.Algo.queries g.A.Algo.stands c.args.self.now.net state.choice state.clock state.mesh at.standing.net_is in
    omega (arith, c.requires.known state at.standing, sound.few_nodes)

pub returns : goal.returns
returns g c = λ state node stands found.
    let held = c.node-node.ensures state.choice state.clock state.mesh node stands.net_is found in
    let clients = c.locals.ensures node.mac node.log held in
    let last = c.last.ensures.last (mentions node.mac node.log) (history node.mac node.log) clients.since clients.stand in
    let at = c.now.ensures state.choice state.clock state.mesh stands.net_is in
    let answers = sym g.met.A.Choosable.answers ∙ ap queries_of (sym stands.algorithm_is) in
    let oks : (Mac → Queries) → ℕ → ℕ = λ queries now. count_by (λ part. part.row.ok) (parts_at (queries node.mac) (knowledge (queries node.mac) node.mac node.log) now) in (
      omega (arith, last),
      c.in_ok-ok_count.ensures node.mac node.log held ∙ ap (oks g.A.Algo.queries) at ∙ ap (λ queries. oks queries state.clock) answers,
    )
