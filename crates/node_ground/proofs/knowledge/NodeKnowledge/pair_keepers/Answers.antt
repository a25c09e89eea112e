use Rattle.std.proofs.Common.{◌≡◌, ◌∙◌, length, rules}
use Rattle.std.proofs.lemmas.Result.{IfOk-weaker}
use Rattle.node_ground.proofs.PairLemmas.{keepers_are}
use Rattle.node_ground.proofs.knowledge.NodeKnowledge.pair_keepers.Goals as goal

pub returns : goal.returns
returns g c =
    let three : length c.candidates-keepers.result ≡ 3 = search rules in
    IfOk-weaker c.others.result _ _
    (λ keepers is known stands.
    keepers_are (g.A.Algo.queries c.args.me) c.args.me known c.args.now c.args.ip c.args.vid c.candidates-keepers.result c.as_slice.result.now keepers.items three
    c.candidates-keepers.ensures (c.as_slice.ensures.value ∙ c.in_ok-nodes.ensures known stands) is) c.others.ensures
