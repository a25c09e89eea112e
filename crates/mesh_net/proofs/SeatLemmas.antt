-- Nodes at their places: one is read, one is set, one joins.
use Rattle.std.proofs.Common.{◌≡◌, ℕ, zero, suc, List, [], ◌∷◌, ◌++◌, ◌≤◌, arith, length, slice_get, slice_set, Some, None, refl, sym, ap, subst}
use Rattle.mesh_base.specs.declared.address.Mac.{Mac}
use Rattle.mesh_model.specs.Clients.Log.{LogEntry}
use Rattle.mesh_model.specs.Net.Inputs.{noting, noted_at}
use Rattle.mesh_model.specs.Net.Mesh.{NodeLog}
use Rattle.mesh_model.specs.Routes.Queries.{Queries}
use Rattle.mesh_model.specs.Routes.RouteLog.{RouteLog}
use Rattle.mesh_net.specs.declared.seat.Seat.{Seat}
use Rattle.mesh_net.specs.NetStands.{SeatIs, SeatsStand}
use Rattle.mesh_post.proofs.LookUps.{some_one}

module _ {A : Type 0} (queries : Mac → Queries) (stands : A → Mac → RouteLog → Type 0) where
  pub seats_length : (seats : List (Seat A)) (rows : List NodeLog) → SeatsStand queries stands seats rows → length seats ≡ length rows
  seats_length [] [] all = refl
  seats_length [] (row ∷ rows) all = absurd all
  seats_length (seat ∷ seats) [] all = absurd all
  seats_length (seat ∷ seats) (row ∷ rows) all = ap suc (seats_length seats rows all.1)

  -- the node of the mesh at the place of one
  pub seat_at : (seats : List (Seat A)) (rows : List NodeLog) (i : ℕ) (seat : Seat A) → SeatsStand queries stands seats rows → slice_get seats i ≡ Some seat → (row : NodeLog) × (slice_get rows i ≡ Some row) × SeatIs queries stands seat row
  seat_at [] rows i seat all e = cc
  seat_at (s ∷ seats) [] i seat all e = absurd all
  seat_at (s ∷ seats) (row ∷ rows) zero seat all e = (row, refl, subst (λ x. SeatIs queries stands x row) (some_one s seat e) all.0)
  seat_at (s ∷ seats) (row ∷ rows) (suc i) seat all e = seat_at seats rows i seat all.1 e

  -- one notes an entry
  pub seat_set : (seats : List (Seat A)) (rows : List NodeLog) (i : ℕ) (seat : Seat A) (row : NodeLog) (entry : LogEntry) → SeatsStand queries stands seats rows → slice_get rows i ≡ Some row → SeatIs queries stands seat (noting entry row) → SeatsStand queries stands (slice_set seats i seat) (noted_at i entry rows)
  seat_set [] [] i seat row entry all e is = tt
  seat_set [] (r ∷ rows) i seat row entry all e is = absurd all
  seat_set (s ∷ seats) [] i seat row entry all e is = absurd all
  seat_set (s ∷ seats) (r ∷ rows) zero seat row entry all e is = (subst (λ x. SeatIs queries stands seat (noting entry x)) (sym (some_one r row e)) is, all.1)
  seat_set (s ∷ seats) (r ∷ rows) (suc i) seat row entry all e is = (all.0, seat_set seats rows i seat row entry all.1 e is)

  -- one joins
  pub seat_more : (seats : List (Seat A)) (rows : List NodeLog) (seat : Seat A) (row : NodeLog) → SeatsStand queries stands seats rows → SeatIs queries stands seat row → SeatsStand queries stands (seats ++ seat ∷ []) (rows ++ row ∷ [])
  seat_more [] [] seat row all is = (is, tt)
  seat_more [] (r ∷ rows) seat row all is = absurd all
  seat_more (s ∷ seats) [] seat row all is = absurd all
  seat_more (s ∷ seats) (r ∷ rows) seat row all is = (all.0, seat_more seats rows seat row all.1 is)

  pub seat_joined : (old new : List (Seat A)) (rows : List NodeLog) (seat : Seat A) (row : NodeLog) → new ≡ old ++ seat ∷ [] → SeatsStand queries stands old rows → SeatIs queries stands seat row → SeatsStand queries stands new (rows ++ row ∷ [])
  seat_joined old new rows seat row more all is = subst (λ seats. SeatsStand queries stands seats (rows ++ row ∷ [])) (sym more) (seat_more old rows seat row all is)

  -- none stands past the last
  pub no_seat_at : (seats : List (Seat A)) (rows : List NodeLog) (i : ℕ) → SeatsStand queries stands seats rows → length seats ≤ i → slice_get rows i ≡ None
  no_seat_at [] [] i all l = refl
  no_seat_at [] (row ∷ rows) i all l = absurd all
  no_seat_at (seat ∷ seats) [] i all l = absurd all
  no_seat_at (seat ∷ seats) (row ∷ rows) zero all l = absurd (omega (arith, l))
  no_seat_at (seat ∷ seats) (row ∷ rows) (suc i) all l = no_seat_at seats rows i all.1 (omega (arith, l))
