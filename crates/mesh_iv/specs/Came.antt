-- An OGM that came, as the definitions see it. The main words are `ogm_in` and `head_of`.
use Rattle.mesh_model.specs.declared.packet.Head.{Head}
use Rattle.mesh_model.specs.declared.packet.Head.TheVariants.{IvOgm}
use Rattle.mesh_model.specs.Routes.Ogm.{Ogm}
use Rattle.mesh_iv.specs.declared.ogm.OgmCame.{OgmCame}

-- the OGM
abbrev pub ogm_in : OgmCame → Ogm
ogm_in came = record {
  ttl = came.ttl;
  flags = came.flags;
  seq = came.seq;
  orig = came.orig;
  prev = came.prev;
  tq = came.tq;
}

-- its head
abbrev pub head_of : OgmCame → Head
head_of came = IvOgm came.ttl came.flags came.seq came.orig came.prev came.tq
