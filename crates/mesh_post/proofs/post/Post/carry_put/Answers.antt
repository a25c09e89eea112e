use Rattle.std.proofs.Common.{rules, vec_len, ◌≡◌, ◌+◌, length, refl, sym, ap, ◌∙◌, subst, arith, append-nil, [], ◌∷◌, ◌++◌}
use Rattle.mesh_model.specs.Net.Due.{lan_delivery_at}
use Rattle.mesh_model.specs.Net.Mesh.{LanPut}
use Rattle.mesh_post.specs.Sent.{Gained}
use Rattle.mesh_post.proofs.Before.{enters_none, put_entered}
use Rattle.mesh_post.proofs.post.Post.carry_put.Goals as goal

pub returns-clause-carries : goal.returns-clause-carries
returns-clause-carries c = λ small soon.
    let put : LanPut = record { lan = c.args.putting.lan; moment = c.args.putting.now; bytes = c.args.bytes; by = c.args.putting.by } in
    let at = c.in_ok-place.ensures.is in
    let count = c.len.ensures in
    let len_is : vec_len c.args.self.now.puts ≡ length c.args.self.now.puts.items = search rules in
    let place_is : c.in_ok-place.place ≡ length c.args.self.now.puts.items = omega (arith, at, count, len_is) in
    let place = c.in_ok-sending.ensures.is in
    let fits = c.in_ok-sending.ensures.low in
    let sum = c.saturating_add.ensures in
    let size = ap length c.as_slice.ensures.value in
    let sending_is : c.in_ok-sending.sending ≡ c.args.self.now.older + length c.args.self.now.fresh.items = omega (arith, place, fits, sum, size) in
    let more = c.saturating_add-self.ensures in
    record {
      rows = refl;
      ways = refl;
      turns = refl;
      lans = refl;
      frames = refl;
      puts = c.in_ok-push.ensures.items ∙ ap (λ n. c.args.self.now.puts.items ++ record { lan = c.args.putting.lan; sending = n; by = c.args.putting.by } ∷ []) sending_is;
      fresh = c.in_ok-push-2.ensures.items;
      older = refl;
      bytes = omega (arith, more, small);
      queue = subst (λ n. Gained c.args.self.now.queue c.wait_on_lan.new.self (lan_delivery_at n put ∷ [])) place_is (c.in_ok-wait_on_lan.ensures.gained put refl soon);
    }

pub returns-in_err-place-clause-enters : goal.returns-in_err-place-clause-enters
returns-in_err-place-clause-enters c = enters_none c.args.self.now

pub returns-in_err-sending-clause-enters : goal.returns-in_err-sending-clause-enters
returns-in_err-sending-clause-enters c = enters_none c.args.self.now

pub returns-in_err-wait_on_lan-clause-enters : goal.returns-in_err-wait_on_lan-clause-enters
returns-in_err-wait_on_lan-clause-enters c =
    let next : c.in_ok-place.place ≡ length c.args.self.now.puts.items = search rules in
    put_entered c.args.self.now _ c.in_ok-place.place [] [] (search rules) next (search rules) (search rules) (sym (append-nil c.args.self.now.puts.items)) (sym (append-nil c.args.self.now.fresh.items)) c.wait_on_lan.ensures.others

pub returns-in_err-push-clause-enters : goal.returns-in_err-push-clause-enters
returns-in_err-push-clause-enters c =
    let next : c.in_ok-place.place ≡ length c.args.self.now.puts.items = search rules in
    put_entered c.args.self.now _ c.in_ok-place.place [] [] (search rules) next (search rules) (search rules) (c.in_err-push.ensures.items ∙ sym (append-nil c.args.self.now.puts.items)) (sym (append-nil c.args.self.now.fresh.items)) c.wait_on_lan.ensures.others

pub returns-in_err-tell_put-clause-enters : goal.returns-in_err-tell_put-clause-enters
returns-in_err-tell_put-clause-enters c =
    let next : c.in_ok-place.place ≡ length c.args.self.now.puts.items = search rules in
    put_entered c.args.self.now _ c.in_ok-place.place (record { lan = c.args.putting.lan; sending = c.in_ok-sending.sending; by = c.args.putting.by } ∷ []) [] (search rules) next (search rules) (search rules) (c.in_ok-push.ensures.items) (sym (append-nil c.args.self.now.fresh.items)) c.wait_on_lan.ensures.others

pub returns-in_err-push-2-clause-enters : goal.returns-in_err-push-2-clause-enters
returns-in_err-push-2-clause-enters c =
    let next : c.in_ok-place.place ≡ length c.args.self.now.puts.items = search rules in
    put_entered c.args.self.now _ c.in_ok-place.place (record { lan = c.args.putting.lan; sending = c.in_ok-sending.sending; by = c.args.putting.by } ∷ []) [] (search rules) next (search rules) (search rules) (c.in_ok-push.ensures.items) (c.in_err-push-2.ensures.items ∙ sym (append-nil c.args.self.now.fresh.items)) c.wait_on_lan.ensures.others

pub returns-clause-enters : goal.returns-clause-enters
returns-clause-enters c =
    let next : c.in_ok-place.place ≡ length c.args.self.now.puts.items = search rules in
    put_entered c.args.self.now _ c.in_ok-place.place (record { lan = c.args.putting.lan; sending = c.in_ok-sending.sending; by = c.args.putting.by } ∷ []) (record { root = 0; bytes = c.args.bytes } ∷ []) (search rules) next (search rules) (search rules) (c.in_ok-push.ensures.items) (c.in_ok-push-2.ensures.items) c.wait_on_lan.ensures.others
