use Rattle.std.proofs.Common.{◌∙◌, ap, is_none, sym, subst, rules}
use Rattle.std.specs.List.Sorted.{IsStrictlySortedBy}
use Rattle.std.specs.Map.{keys_of}
use Rattle.mesh_algo.specs.Pairs.{pair_order}
use Rattle.mesh_algo.specs.LifeRows.{forwarded_by}
use Rattle.mesh_v.specs.Hears.{sent_on_as}
use Rattle.mesh_v.specs.Rows.{path_with}
use Rattle.mesh_v.specs.Tables.{Tables}
use Rattle.mesh_algo.specs.Writing.{IsWritten}
use Rattle.mesh_v.specs.Writing.{is_over_after, orig_then, pair_of}
use Rattle.mesh_v.proofs.FirstLemmas.{first_answer, first_stands}
use Rattle.mesh_v.proofs.v.V.hear_first.Goals as goal

pub returns : goal.returns
returns c =
    let came = c.args.ogm.now in
    let row = c.args.life.now in
    let value = c.min-value.result in
    let old : Tables = c.args.self.now in
    let new : Tables = record { me = c.self.inside.me; ogms = c.self.inside.ogms; elps = c.self.inside.elps; origs = c.write.new.origs.entries; paths = c.write.new.paths.entries } in
    let written : IsWritten (pair_of came) (is_none row) (path_with c.args.path.now came.seq value) (orig_then came c.args.elp c.args.restarted row value old.origs new.paths) (old.origs, old.paths) (new.origs, new.paths)
    = subst (λ t. IsWritten (pair_of came) (is_none row) (path_with c.args.path.now came.seq value) (orig_then came c.args.elp c.args.restarted row value t.origs new.paths) (t.origs, t.paths) (new.origs, new.paths)) c.self.view_is
    (subst (λ r. IsWritten (pair_of came) (is_none row) r (orig_then came c.args.elp c.args.restarted row value c.self.inside.origs.entries new.paths) (c.self.inside.origs.entries, c.self.inside.paths.entries) (new.origs, new.paths)) c.with-row.ensures c.in_ok-forward.ensures.written) in
    record {
      noted = λ me log f began.
          first_stands me log came f.first c.args.elp c.args.restarted row c.args.path.now value old new f.is f.path_is c.min-value.ensures written began (ap (λ t. t.me) c.self.view_is) (ap (λ t. t.ogms) c.self.view_is) (ap (λ t. t.elps) c.self.view_is);
      heard = λ me log f.
          c.first_hearing.ensures
          ∙ first_answer me log came f.first c.args.elp c.args.restarted row c.args.path.now value old new f.is f.path_is c.min-value.ensures written c.in_ok-forward.forward
          (c.in_ok-forward.ensures.answer (subst (λ t. IsStrictlySortedBy pair_order (keys_of t.paths)) (sym c.self.view_is) f.is.stands.paths_stand.rise)
          ∙ ap (λ t. sent_on_as came value (forwarded_by row) (is_over_after came row t.origs new.paths)) c.self.view_is);
      err = search rules;
    }
