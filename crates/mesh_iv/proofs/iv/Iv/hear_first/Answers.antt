use Rattle.std.proofs.Common.{◌≡◌, ◌∙◌, ap, is_none, sym, subst, max, rules}
use Rattle.std.specs.List.Sorted.{IsStrictlySortedBy}
use Rattle.std.specs.Map.{keys_of}
use Rattle.mesh_algo.specs.LifeRows.{newest_by}
use Rattle.mesh_algo.specs.Pairs.{pair_order}
use Rattle.mesh_iv.specs.Origs.{bests_of, lives_of}
use Rattle.mesh_iv.specs.Rows.{path_with}
use Rattle.mesh_iv.specs.Tables.{Tables}
use Rattle.mesh_algo.specs.Writing.{IsWritten}
use Rattle.mesh_iv.specs.Writing.{IsBestPut, IsKept, life_then, pair_of}
use Rattle.mesh_iv.proofs.FirstLemmas.{first_stands, first_answer}
use Rattle.mesh_iv.proofs.iv.Iv.hear_first.Goals as goal

pub returns : goal.returns
returns c =
    let came = c.args.ogm.now in
    let row = c.args.life.now in
    let value = c.value-value.result in
    let old : Tables = c.args.self.now in
    let new : Tables = record { me = c.self.inside.me; sent = c.self.inside.sent; lives = lives_of c.write.new.origs.entries; paths = c.write.new.paths.entries; bests = bests_of c.write.new.origs.entries } in
    let top : c.max-newest.result ≡ max (newest_by row) came.seq = c.max-newest.ensures ∙ ap (λ n. max n came.seq) c.newest_of.ensures in
    let best : IsKept came row c.args.kept old.paths → IsKept came row c.args.kept c.self.inside.paths.entries = λ kept. subst (λ t. IsKept came row c.args.kept t.paths) (sym c.self.view_is) kept in
    let sorted : IsStrictlySortedBy pair_order (keys_of old.paths) → IsStrictlySortedBy pair_order (keys_of c.self.inside.paths.entries) = λ rise. subst (λ t. IsStrictlySortedBy pair_order (keys_of t.paths)) (sym c.self.view_is) rise in
    let written : IsKept came row c.args.kept old.paths → IsWritten (pair_of came) (is_none row) (path_with c.args.path.now came.seq value) (life_then came c.args.restarted row value new.paths) (old.lives, old.paths) (new.lives, new.paths)
    = λ kept. subst (λ t. IsWritten (pair_of came) (is_none row) (path_with c.args.path.now came.seq value) (life_then came c.args.restarted row value new.paths) (t.lives, t.paths) (new.lives, new.paths)) c.self.view_is
    (subst (λ r. IsWritten (pair_of came) (is_none row) r (life_then came c.args.restarted row value new.paths) (lives_of c.self.inside.origs.entries, c.self.inside.paths.entries) (new.lives, new.paths)) c.with-row.ensures (c.in_ok-forward.ensures.written (best kept))) in
    record {
      noted = λ me log tp f kept began.
          first_stands me log came f.first c.args.restarted row c.args.path.now value old new f.is f.path_is (c.value-value.ensures me log row f top) (written kept) tp began (ap (λ t. t.me) c.self.view_is) (ap (λ t. t.sent) c.self.view_is)
          (subst (λ t. IsBestPut came row new.paths t.bests new.bests) c.self.view_is (c.in_ok-forward.ensures.best (best kept) (sorted f.is.stands.paths_stand.rise)));
      heard = λ me log f kept.
          c.first_hearing.ensures
          ∙ first_answer me log came f.first c.args.restarted row c.args.path.now value old new f.is f.path_is (c.value-value.ensures me log row f top) (written kept) c.in_ok-forward.forward
          (c.in_ok-forward.ensures.answer (best kept) (sorted f.is.stands.paths_stand.rise));
      err = search rules;
    }
