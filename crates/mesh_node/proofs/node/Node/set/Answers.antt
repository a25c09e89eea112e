use Rattle.mesh_model.specs.Knowledge.Steps.{knowledge}
use Rattle.node_ground.specs.SettingsSeen.{setting_seen}
use Rattle.mesh_node.proofs.GivenLemmas.{has_set, set_stands}
use Rattle.mesh_node.proofs.node.Node.set.Goals as goal

pub returns-clause-noted : goal.returns-clause-noted
returns-clause-noted g c = λ me log is late.
    let known = knowledge (g.A.Algo.queries me) me log in
    let setting = setting_seen c.args.setting in
    record {
      mac = is.mac;
      kept = set_stands g.A.Algo.stands c.args.self.now.kept c.set.new.self me setting known is.kept (c.set.ensures me known.services is.kept.services);
      clients = has_set (g.A.Algo.queries me) c.args.self.now.locals me log c.args.now setting is.clients late;
      bridge = is.bridge;
      rising = (late, is.rising);
      alive = is.alive;
    }
