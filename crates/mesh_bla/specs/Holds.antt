-- Who holds a client, as the code tells it. No clause of a public call cites this file.
use Rattle.mesh_model.specs.Bridges.Verdicts.{Hold, Ours, Nobodys, Anothers}
use Rattle.mesh_bla.specs.declared.hold.Hold.{Hold as ToldHold}
use Rattle.mesh_bla.specs.declared.hold.Hold.TheVariants.{Ours as OursTold, Nobodys as NobodysTold, Anothers as AnothersTold}

-- what is told, as the definitions have it
abbrev pub told_hold : ToldHold → Hold
told_hold (OursTold age) = Ours age
told_hold NobodysTold = Nobodys
told_hold AnothersTold = Anothers
