use Rattle.mesh_show.proofs.TableLemmas.{claims_shown, pictures_shown}
use Rattle.mesh_show.proofs.seen.Seen.show.Goals as goal

pub returns-in_ok-show_claims-in-Claims : goal.returns-in_ok-show_claims-in-Claims
returns-in_ok-show_claims-in-Claims g c = record {
  ok = λ state row seen at. rw c.in-Claims.is (claims_shown g.A.Choosable.algorithm c.args.names.now c.args.self.now.moment state row c.args.out.now.items c.show_claims.new.out.items seen
      (c.in_ok-show_claims-in-Claims.ensures row at));
}

pub returns-in_ok-show_pictures-in-Pictures : goal.returns-in_ok-show_pictures-in-Pictures
returns-in_ok-show_pictures-in-Pictures g c = record {
  ok = λ state row seen at. rw c.in-Pictures.is (pictures_shown g.A.Choosable.algorithm c.args.names.now c.args.self.now.moment state row c.args.out.now.items c.show_pictures.new.out.items seen
      (c.in_ok-show_pictures-in-Pictures.ensures row at));
}
