-- The row that an algorithm keeps of an originator's last life, and what follows from it. The main
-- word is `life_row`.
use Rattle.std.specs.Prelude.{ℕ, ◌-◌, ◌||◌, nat_lt, is_none, max, Bool, List, [], ◌∷◌, Option, Some, None, if◌then◌else◌}
use Rattle.mesh_model.specs.declared.packet.Head.{Head}
use Rattle.mesh_model.specs.declared.route.Hearing.{Hearing}
use Rattle.mesh_model.specs.Routes.Life.{HeardOgm, began_wild, since, life_span, newest, forwarded}
use Rattle.mesh_model.specs.Routes.Numbers.{window}
use Rattle.mesh_algo.specs.declared.life.Life.{Life}

-- of an originator's hearings, those of the life of the last one, whenever that was
abbrev pub latest : List HeardOgm → List HeardOgm
latest [] = []
latest (h ∷ older) = h ∷ since h older

-- the row of a life
abbrev pub life_row : List HeardOgm → Option Life
life_row [] = None
life_row (h ∷ older) = Some (record {
  last = h.moment;
  newest = newest (h ∷ older);
  forwarded = window (forwarded (h ∷ older));
  restarted = began_wild (h ∷ older);
})

-- a row of a life, if it is one at a moment
abbrev pub life_at : ℕ → Life → Option Life
life_at moment life = if nat_lt (moment - life.last) life_span then Some life else None

-- the row of a life with a hearing more that counts for it alone
abbrev pub touched : ℕ → Life → Life
touched moment life = record life { last = moment }

-- the newest number of a life by its row, 0 without one
abbrev pub newest_by : Option Life → ℕ
newest_by None = 0
newest_by (Some life) = life.newest

-- the numbers of a life that were sent on, by its row
abbrev pub forwarded_by : Option Life → List ℕ
forwarded_by None = []
forwarded_by (Some life) = life.forwarded

-- the moment of the restart with which a life began, if it began with one, by its row
abbrev pub restarted_by : Option Life → Option ℕ
restarted_by None = None
restarted_by (Some life) = life.restarted

-- the row of a life with a hearing more, of a number at a moment, that began with a restart then
abbrev pub life_with : ℕ → ℕ → Option ℕ → Option Life → Bool → Life
life_with moment number restarted row sent_on = record {
  last = moment;
  newest = max (newest_by row) number;
  forwarded = if sent_on then window (number ∷ forwarded_by row) else forwarded_by row;
  restarted = restarted;
}

-- what is made of an OGM on time, the first of its number from its neighbour, by the row of its
-- life before it and the head with which it is sent on
abbrev pub first_hearing : ℕ → Option Life → Option Head → Hearing
first_hearing number row forward = record {
  accepted = is_none row || nat_lt (newest_by row) number;
  began = is_none row;
  forward = forward;
}
