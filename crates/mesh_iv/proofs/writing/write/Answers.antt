use Rattle.std.proofs.Common.{◌≡◌, ◌∙◌, ap, ap₂, sym, subst, cond, is_none, Some, rules}
use Rattle.std.specs.List.Sorted.{IsStrictlySortedBy}
use Rattle.std.specs.Map.{keys_of, lookup}
use Rattle.mesh_model.specs.Routes.Addresses.{mac_order, same_mac}
use Rattle.mesh_algo.specs.declared.pair.Pair.{Pair}
use Rattle.mesh_algo.specs.LifeRows.{forwarded_by, life_with}
use Rattle.mesh_algo.specs.Pairs.{pair_order, path_put, rows_kept, same_pair}
use Rattle.mesh_algo.specs.Walk.{is_best}
use Rattle.mesh_iv.specs.declared.row.Orig.{Orig}
use Rattle.mesh_iv.specs.Hears.{goes_on}
use Rattle.mesh_iv.specs.Origs.{bests_of, lives_of}
use Rattle.mesh_iv.specs.Writing.{best_after, is_over_after, life_then, pair_of}
use Rattle.mesh_algo.proofs.PutLemmas.{none_test}
use Rattle.mesh_iv.proofs.RowLemmas.{lives_rise, part_put}
use Rattle.mesh_iv.proofs.writing.write.Goals as goal

pub returns-clause-written : goal.returns-clause-written
returns-clause-written c = λ kept.
    let came = c.args.ogm.now in
    let life = c.args.life.now in
    let new = c.put_path.new.paths.entries in
    let same_paths : c.reserve-2.new.self.entries ≡ c.args.paths.now.entries = c.reserve-2.ensures.entries in
    let same_origs : c.reserve.new.self.entries ≡ c.args.origs.now.entries = c.reserve.ensures.entries in
    let rises : IsStrictlySortedBy pair_order (keys_of c.args.paths.now.entries) → IsStrictlySortedBy pair_order (keys_of new)
    = λ sorted. c.in_ok-put_path.ensures.rises (subst (λ rows. IsStrictlySortedBy pair_order (keys_of rows)) (sym same_paths) sorted) in
    let rows : (pair : Pair) → lookup (same_pair pair) new ≡ path_put (pair_of came) c.args.row (rows_kept (is_none life) came.orig c.args.paths.now.entries) pair
    = λ pair. c.in_ok-put_path.ensures.updated pair
    ∙ ap (λ p. cond (same_pair p pair) (Some c.args.row) (lookup (same_pair pair) (rows_kept c.is_none.result p.orig c.reserve-2.new.self.entries))) c.pair.ensures
    ∙ ap₂ (λ b rows. path_put (pair_of came) c.args.row (rows_kept b came.orig rows) pair) (none_test life c.is_none.result c.is_none.ensures) same_paths in
    let best : IsStrictlySortedBy pair_order (keys_of c.args.paths.now.entries) → c.best_then-best.result ≡ best_after came life new
    = λ sorted. c.best_then-best.ensures c.args.paths.now.entries (record { kept_is = kept; rows_are = rows; rise = sorted; rise_then = rises sorted }) in
    let over : IsStrictlySortedBy pair_order (keys_of c.args.paths.now.entries) → c.is_best-over.result ≡ is_over_after came life new
    = λ sorted. c.is_best-over.ensures ∙ ap (is_best came.from) (best sorted) in
    let row : IsStrictlySortedBy pair_order (keys_of c.args.paths.now.entries) → c.life_after-life.result ≡ life_then came c.args.restarted life c.args.value new
    = λ sorted. c.life_after-life.ensures ∙ ap (λ b. life_with came.moment came.seq c.args.restarted life b) (c.goes_on-sent.ensures ∙ ap (λ b. goes_on came c.args.value (forwarded_by life) b) (over sorted)) in
    record {
      paths_are = rows;
      paths_rise = rises;
      origs_are = λ o sorted. part_put (λ (r : Orig). r.life) came.orig _ c.reserve.new.self.entries c.put_near.new.table.entries c.in_ok-put_near.ensures.updated o
          ∙ ap₂ (λ r rows. cond (same_mac came.orig o) (Some r) (lookup (same_mac o) (lives_of rows))) (row sorted) same_origs;
      origs_rise = λ sorted. lives_rise c.reserve.new.self.entries c.put_near.new.table.entries c.in_ok-put_near.ensures.rises (subst (λ rows. IsStrictlySortedBy mac_order (keys_of (lives_of rows))) (sym same_origs) sorted);
    }

pub returns-clause-best : goal.returns-clause-best
returns-clause-best c = λ kept sorted o.
    let came = c.args.ogm.now in
    let best : c.best_then-best.result ≡ best_after came c.args.life.now c.put_path.new.paths.entries = search rules in
    part_put (λ (r : Orig). r.best) came.orig _ c.reserve.new.self.entries c.put_near.new.table.entries c.in_ok-put_near.ensures.updated o
    ∙ ap₂ (λ b rows. cond (same_mac came.orig o) (Some b) (lookup (same_mac o) (bests_of rows))) best c.reserve.ensures.entries
