use Rattle.std.proofs.Common.{◌≡◌, ◌+◌, ◌++◌, ◌∷◌, [], length, sym, ap, ◌∙◌, subst, arith}
use Rattle.mesh_post.specs.declared.row.Sending.{Sending}
use Rattle.mesh_post.specs.Sent.{Amid, IsSending, sent_on_all, actor_of, chosen_ways}
use Rattle.mesh_post.proofs.Before.{enters_none}
use Rattle.mesh_post.proofs.ActLemmas.{amid_more, next_sending, grown}
use Rattle.mesh_post.proofs.post.Post.send_all.Goals as goal

pub returns-clause-sent : goal.returns-clause-sent
returns-clause-sent c = λ older last ticks mesh step room low late.
    let s : Sending = record { root = c.args.sender.root; bytes = c.args.bytes } in
    let fresh = c.args.self.now.fresh.items in
    let place = c.in_ok-sending.ensures.is in
    let fits = c.in_ok-sending.ensures.low in
    let sum = c.saturating_add.ensures in
    let older_is = step.older_is in
    let size = ap length c.as_slice.ensures.value in
    let place_is : c.in_ok-sending.sending ≡ length older + length fresh = omega (arith, place, fits, sum, older_is, size) in
    let kept = c.carry_all.ensures.kept in
    let sending : IsSending ((older ++ fresh) ++ s ∷ []) c.in_ok-sending.sending c.args.bytes c.args.sender.root = next_sending older fresh s c.in_ok-sending.sending place_is in
    let sent = rw c.as_slice-2.ensures.value at c.in_ok-carry_all.ensures.sent in
    let sends = sent ((older ++ fresh) ++ s ∷ []) last ticks mesh (amid_more c.args.self.now (older ++ fresh) s last ticks mesh step.amid) sending room low late in
    let after = sent_on_all (actor_of c.args.sender) c.args.reason c.args.bytes (chosen_ways c.args.self.now c.args.sender.place c.args.to) mesh in
    let all : older ++ c.push.new.self.items ≡ (older ++ fresh) ++ s ∷ [] = grown older fresh c.carry_all.new.self.fresh.items c.push.new.self.items s (λ i. (kept.fresh i).items) c.in_ok-push.ensures.items in
    let amid : Amid c.carry_all.new.self (older ++ c.push.new.self.items) last ticks after = subst (λ ss. Amid c.carry_all.new.self ss last ticks after) (sym all) sends.amid in
    record {
      step = record {
        amid = record {
          stands = record {
            rows = amid.stands.rows;
            turns = amid.stands.turns;
            ways = amid.stands.ways;
            lans = amid.stands.lans;
            frames = amid.stands.frames;
            puts = amid.stands.puts;
            bytes = amid.stands.bytes;
            few = amid.stands.few;
            small = amid.stands.small;
          };
          waits = amid.waits;
        };
        older_is = kept.older ∙ step.older_is;
      };
      logged = sends.logged;
    }

pub returns-in_err-sending-clause-enters : goal.returns-in_err-sending-clause-enters
returns-in_err-sending-clause-enters c = enters_none c.args.self.now
