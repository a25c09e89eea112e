use Rattle.std.proofs.Common.{◌≡◌, ◌∙◌, ap, ap₂, sym, subst, cond, Some}
use Rattle.std.specs.List.Sorted.{IsStrictlySortedBy}
use Rattle.std.specs.Map.{keys_of, lookup}
use Rattle.mesh_model.specs.Routes.Addresses.{mac_order, same_mac}
use Rattle.mesh_algo.specs.LifeRows.{forwarded_by, life_with}
use Rattle.mesh_algo.specs.Pairs.{pair_order, path_put, rows_kept, same_pair}
use Rattle.mesh_algo.proofs.PutLemmas.{none_test}
use Rattle.mesh_v.specs.Hears.{goes_on}
use Rattle.mesh_v.specs.Writing.{is_over_after, pair_of}
use Rattle.mesh_v.proofs.writing.write.Goals as goal

pub returns-clause-written : goal.returns-clause-written
returns-clause-written c =
    let came = c.args.ogm.now in
    let life = c.args.life.now in
    let same_paths : c.reserve-2.new.self.entries ≡ c.args.paths.now.entries = c.reserve-2.ensures.entries in
    let same_origs : c.reserve.new.self.entries ≡ c.args.origs.now.entries = c.reserve.ensures.entries in
    let rises : IsStrictlySortedBy pair_order (keys_of c.args.paths.now.entries) → IsStrictlySortedBy pair_order (keys_of c.put_path.new.paths.entries)
    = λ sorted. c.in_ok-put_path.ensures.rises (subst (λ rows. IsStrictlySortedBy pair_order (keys_of rows)) (sym same_paths) sorted) in
    let sent : IsStrictlySortedBy pair_order (keys_of c.args.paths.now.entries) → c.is_sent_on-sent.result ≡ goes_on came c.args.value (forwarded_by life) (is_over_after came life c.args.origs.now.entries c.put_path.new.paths.entries)
    = λ sorted. c.is_sent_on-sent.ensures (rises sorted) ∙ ap (λ rows. goes_on came c.args.value (forwarded_by life) (is_over_after came life rows c.put_path.new.paths.entries)) same_origs in
    let life_is : IsStrictlySortedBy pair_order (keys_of c.args.paths.now.entries) → c.life_after-life.result ≡ life_with came.moment came.seq c.args.restarted life (goes_on came c.args.value (forwarded_by life) (is_over_after came life c.args.origs.now.entries c.put_path.new.paths.entries))
    = λ sorted. c.life_after-life.ensures ∙ ap (λ b. life_with came.moment came.seq c.args.restarted life b) (sent sorted) in
    record {
      paths_are = λ pair. c.in_ok-put_path.ensures.updated pair
          ∙ ap (λ p. cond (same_pair p pair) (Some c.args.row) (lookup (same_pair pair) (rows_kept c.is_none.result p.orig c.reserve-2.new.self.entries))) c.pair.ensures
          ∙ ap₂ (λ b rows. path_put (pair_of came) c.args.row (rows_kept b came.orig rows) pair) (none_test life c.is_none.result c.is_none.ensures) same_paths;
      paths_rise = rises;
      origs_are = λ o sorted. c.in_ok-put_near.ensures.updated o ∙ ap₂ (λ l rows. cond (same_mac came.orig o) (Some (record { life = Some l; elp = c.args.elp })) (lookup (same_mac o) rows)) (life_is sorted) same_origs;
      origs_rise = λ sorted. c.in_ok-put_near.ensures.rises (subst (λ rows. IsStrictlySortedBy mac_order (keys_of rows)) (sym same_origs) sorted);
    }
