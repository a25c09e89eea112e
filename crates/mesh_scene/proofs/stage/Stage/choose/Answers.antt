use Rattle.std.proofs.Common.{ap, refl, sym, ◌∙◌, append-nil}
use Rattle.mesh_model.specs.Net.Mesh.{begun_mesh}
use Rattle.mesh_net.specs.Reached.{begun_watch}
use Rattle.mesh_model.specs.Run.Rules.{setup_of}
use Rattle.mesh_model.specs.Run.State.{text_of}
use Rattle.mesh_scene.proofs.SessionLemmas.{algo_chosen, algo_late}
use Rattle.mesh_scene.proofs.stage.Stage.choose.Goals as goal

pub begin-requires : goal.begin-requires
begin-requires c = let at = c.requires.somewhere in record { low = (c.now.ensures at.state at.standing).1 }

pub returns-then-has_nodes-clause-answers : goal.returns-then-has_nodes-clause-answers
returns-then-has_nodes-clause-answers c = λ state stands.
    rw c.refused.ensures (algo_late (setup_of state.algorithm) state c.args.algorithm (sym (c.has_nodes.ensures.told state stands) ∙ c.if-has_nodes.true))

pub returns-clause-answers : goal.returns-clause-answers
returns-clause-answers c = λ state stands.
    let after = record state { algorithm = c.args.algorithm } in
    record {
      after = after;
      carried = algo_chosen (setup_of state.algorithm) state c.args.algorithm (sym (c.has_nodes.ensures.told state stands) ∙ c.if-has_nodes.false);
      standing = c.begin.ensures after (c.has_nodes.ensures.empty state stands c.if-has_nodes.false ∙ ap (λ w. begun_mesh (begun_watch w)) (sym (c.is_watched.ensures state stands))) (sym (c.now.ensures state stands).0) refl (sym (c.choice.ensures state stands));
      text = sym (append-nil (text_of state));
    }
