-- What `input`, `input_all`, `lan_frame` and `deliver` leave. Each tries one step at the clock, and
-- settles it; what differs is the step.
use Rattle.std.proofs.Common.{◌≡◌, ℕ, true, false, List, Result, is_ok, sym, subst}
use Rattle.std.specs.Result.{OnOk, OnErr, IfErr}
use Rattle.std.proofs.lemmas.Result.{IfErr-weaker, on_ok_weaker}
use Rattle.mesh_base.specs.declared.address.Mac.{Mac}
use Rattle.mesh_base.specs.declared.event.Event.{Event}
use Rattle.mesh_model.specs.declared.frame_choice.FrameChoice.{FrameChoice}
use Rattle.mesh_model.specs.Net.Due.{first_ticks}
use Rattle.mesh_model.specs.Net.Mesh.{Mesh}
use Rattle.mesh_model.specs.Net.Sending.{Attempt}
use Rattle.mesh_model.specs.Routes.Queries.{Queries}
use Rattle.mesh_model.specs.Routes.RouteLog.{RouteLog}
use Rattle.node_ground.specs.declared.failure.NodeErr.{NodeErr}
use Rattle.mesh_net.specs.declared.failure.NetErr.{NetErr}
use Rattle.mesh_net.specs.declared.net.Net.{Net}
use Rattle.mesh_net.specs.Given.{GiveTells}
use Rattle.mesh_net.specs.NetStands.{HoldsFor, NetStands, IsDead, IsNet}
use Rattle.mesh_net.specs.Steps.{Begun, Gave, Settled, SettleTells}
use Rattle.mesh_net.specs.Tells.{Carried, StepTells}
use Rattle.mesh_net.proofs.Ends.{begun_now, live_of, net_by, ok_has, settle_tells}

module _ {A : Type 0} (queries : Mac → Queries) (stands : A → Mac → RouteLog → Type 0) (net : Net A) where
  -- a step at the clock begins in a mesh
  abbrev BeginsIn : FrameChoice → Mesh → Type 0
  BeginsIn choice mesh = Begun queries stands net choice mesh.last (first_ticks 0 mesh.nodes) net.clock mesh

  -- what is so at the clock of the net is so at the one that it stands for
  at_clock : (choice : FrameChoice) (clock : ℕ) (mesh : Mesh) (P : ℕ → Type 0) → NetStands queries stands net choice clock mesh → (NetStands queries stands net choice net.clock mesh → P net.clock) → P clock
  at_clock choice clock mesh P s so = subst P s.clock_is (so (subst (λ k. NetStands queries stands net choice k mesh) (sym s.clock_is) s))

  -- the step was carried out
  pub line_carried : (amid done : Net A) (choice : FrameChoice) (clock : ℕ) (mesh : Mesh) (log told left : List Event) (given : Result Unit NodeErr) (settled : Result Unit NetErr) (attempt : ℕ → Attempt)
      → NetStands queries stands net choice clock mesh → OnOk settled ((is_ok given ≡ true) × Settled amid done × (left ≡ told))
      → (BeginsIn choice mesh → OnOk given (Gave queries stands amid choice mesh.last (first_ticks 0 mesh.nodes) mesh log told (attempt net.clock)))
      → (NetStands queries stands net choice net.clock mesh → Settled amid done → left ≡ told → Gave queries stands amid choice mesh.last (first_ticks 0 mesh.nodes) mesh log told (attempt net.clock) → Carried queries stands done choice net.clock mesh log left (attempt net.clock))
      → OnOk settled (Carried queries stands done choice clock mesh log left (attempt clock))
  line_carried amid done choice clock mesh log told left given settled attempt s ended gave carries =
      at_clock choice clock mesh (λ k. OnOk settled (Carried queries stands done choice k mesh log left (attempt k))) s (λ now.
      on_ok_weaker settled (λ ok. carries now ok.1 ok.2 (ok_has given ok.0 (gave (begun_now queries stands net choice mesh now)))) ended)

  -- why it is refused
  pub line_cause : (choice : FrameChoice) (clock : ℕ) (mesh : Mesh) (given : Result Unit NodeErr) (settled : Result Unit NetErr) (attempt : ℕ → Attempt)
      → NetStands queries stands net choice clock mesh → IfErr settled (SettleTells given) → (BeginsIn choice mesh → IfErr given (GiveTells (attempt net.clock))) → IfErr settled (StepTells (attempt clock))
  line_cause choice clock mesh given settled attempt s ended told =
      at_clock choice clock mesh (λ k. IfErr settled (StepTells (attempt k))) s (λ now.
      IfErr-weaker settled (SettleTells given) (StepTells (attempt net.clock)) (λ e tells. settle_tells (attempt net.clock) given e tells (told (begun_now queries stands net choice mesh now))) ended)

  -- the net behind it
  pub line_net : (done : Net A) (log left : List Event) (settled : Result Unit NetErr) (attempt : ℕ → Mesh → Attempt) → IsNet queries stands net → net.dead ≡ false → OnErr settled (IsDead done)
      → HoldsFor queries stands net (λ choice clock mesh. OnOk settled (Carried queries stands done choice clock mesh log left (attempt clock mesh)))
      → IsNet queries stands done
  line_net done log left settled attempt is alive refused carries =
      let live = live_of queries stands net is alive in
      net_by settled refused (on_ok_weaker settled (λ ok. record { choice = live.choice; clock = live.clock; mesh = ok.after; standing = ok.standing })
      (carries live.choice live.clock live.mesh live.standing))
