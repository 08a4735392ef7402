-- An entry without a call: what is true of a server stays so.
use Rattle.std.proofs.Common.{◌≡◌, ◌≤◌, ℕ, Option, None, List, [], ◌∷◌, ◌++◌, false}
use Rattle.std.specs.Prelude.{IsTrue}
use Rattle.px_outside.specs.declared.disk.Disk.{Ghosts}
use Rattle.px_trail.specs.declared.entry.Entry.{Entry}
use Rattle.px_trail.specs.Lasting.{lasting}
use Rattle.px_trail.specs.Legal.{MayCome}
use Rattle.px_trail.specs.Trail.{Base, closing_step}
use Rattle.px_recovery.specs.Kept.{FolderGoesOn, IsServer, Parts}
use Rattle.px_recovery.proofs.Server.{noted_server}

-- other parts go on from the same disk
pub with_parts : {D : Type 0} (d : Ghosts D) (b : Base) (premise : Type 0) (Has Then : Parts D) (disk : D) (es : List Entry) (late : Option Entry) (closed : Option ℕ) → IsServer d b premise Has disk es late closed
    → (closed ≡ None → premise → IsTrue d.tells → FolderGoesOn d b Then disk es) → IsServer d b premise Then disk es late closed
with_parts d b premise Has Then disk es late closed k goes = record {
  early = k.early;
  lasts = k.lasts;
  legal = k.legal;
  goes_on = goes;
  unlate = k.unlate;
  closing = k.closing;
  late_is = k.late_is;
}

abbrev NoParts : (D : Type 0) → Parts D
NoParts D = λ disk es f v. Unit {0}

-- an entry that doesn't last, after which the parts go on: other parts may go on than before
module _ {D : Type 0} (d : Ghosts D) (tells_left : (x : D) (moment file : ℕ) (bytes : List ℕ) → d.left x moment file bytes → IsTrue d.tells)
    (up_to_now : (x : D) (moment file : ℕ) (bytes : List ℕ) → d.left x moment file bytes → moment ≤ d.calls x) (b : Base) (premise : Type 0) (Has Then : Parts D)
    (disk : D) (es : List Entry) (late : Option Entry) (closed : Option ℕ) (k : IsServer d b premise Has disk es late closed) (e : Entry) (at : e.calls ≡ d.calls disk) (quiet : lasting e ≡ false) (may : MayCome b es e)
    (unshut : closing_step closed e.act ≡ closed) (goes : closed ≡ None → FolderGoesOn d b Has disk es → FolderGoesOn d b Then disk (es ++ e ∷ [])) where
  bare : {l : List Entry} {H : Parts D} → FolderGoesOn d b H disk l → FolderGoesOn d b (NoParts D) disk l
  bare g = record { folder = g.folder; groups = g.groups; stands = g.stands; explains = g.explains; has = tt }

  plain : IsServer d b premise (NoParts D) disk es late closed
  plain = with_parts d b premise Has (NoParts D) disk es late closed k (λ running given tells. bare (k.goes_on running given tells))

  then_on : closed ≡ None → premise → IsTrue d.tells → FolderGoesOn d b Then disk (es ++ e ∷ [])
  then_on running given tells = goes running (k.goes_on running given tells)

  pub server_goes : IsServer d b premise Then disk (es ++ e ∷ []) late closed
  server_goes = with_parts d b premise (NoParts D) Then disk (es ++ e ∷ []) late closed
      (noted_server d tells_left up_to_now b premise (NoParts D) disk es late closed plain e at quiet (λ given tells. may) unshut (λ running given tells before. bare (then_on running given tells))) then_on
