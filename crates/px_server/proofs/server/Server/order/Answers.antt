use Rattle.std.proofs.Common.{◌≡◌, ◌∙◌, List, length, take, subst, sym, refl}
use Rattle.std.proofs.lemmas.List.{with_items_is}
use Rattle.std.specs.List.{AllByRecursion}
use Rattle.px_calls.specs.Calls.{DidOrder}
use Rattle.px_calls.specs.Causes.{Refuses, order_cause}
use Rattle.px_calls.specs.declared.fault.StepFault.TheVariants.{Closed}
use Rattle.px_group.specs.declared.group.Group.{Group}
use Rattle.px_server.specs.Shown.{Shown, known_by, shown_of}
use Rattle.px_server.specs.Kept.{IsKept}
use Rattle.px_server.specs.Upkeep.{AllSettle, AreOrdered, HasRisen, IsWantedTable}
use Rattle.px_server.proofs.Found.{closed_by}
use Rattle.px_server.proofs.Orders.{all_settled, did_order, none_taken, settle_length}
use Rattle.px_server.proofs.DeviceCalls.{none_by}
use Rattle.px_server.proofs.server.Server.order.Goals as goal

pub returns-in-Some-clause-refused : goal.returns-in-Some-clause-refused
returns-in-Some-clause-refused g c =
    let s = c.self.inside in
    let b = g.B.Based.base in
    let told = c.self.invariant.0.told in
    let v : Shown = shown_of s.seat s.trail.entries s.late s.closed s.groups.items s.lookback s.raising (g.D.Disk.calls s.disk) (g.D.Disk.faults s.disk) in
    subst (λ (w : Shown). Refuses order_cause (known_by b g.B.Based.damaged w) (known_by b g.B.Based.damaged w) (Closed c.in-Some.call)) c.self.view_is
    (closed_by (known_by b g.B.Based.damaged v) told.legal s.closed told.closing c.in-Some.call c.in-Some.is)

pub invariant_of-self : goal.invariant_of-self
invariant_of-self g c =
    let s = c.self.inside in
    let hs = c.order_all.new.groups in
    let settle = c.order_all.ensures.settle s.disk in
    let long : length hs ≡ s.groups.len = settle_length g.D.Disk g.met.D.Disk.told g.met.D.Disk.up_to_now g.B.Based.base g.B.Founded.sound g.B.Founded.premise g.B.Founded.began s.disk s.catalog s.standing s.trail s.late s.closed c.in_default.is c.deref_mut.result.now hs settle ∙ c.deref_mut.ensures.len in
    let kept = all_settled g.D.Disk g.met.D.Disk.told g.met.D.Disk.up_to_now g.B.Based.base g.B.Founded.sound g.B.Founded.premise g.B.Founded.began s.disk s.catalog s.standing s.trail s.late s.closed c.in_default.is s.groups.items hs c.self.invariant.0
    (subst (λ (gs : List Group). AllSettle g.D.Disk s.disk gs hs) c.deref_mut.ensures.value settle) in (
      subst (λ (gs : List Group). IsKept g.D.Disk g.B.Based.base g.B.Founded.sound g.B.Founded.premise g.B.Founded.began s.disk s.catalog s.standing gs s.trail s.late s.closed) (sym (with_items_is s.groups hs long)) kept,
      c.self.invariant.1,
    )

pub invariant_of-self-in-CompactAll : goal.invariant_of-self-in-CompactAll
invariant_of-self-in-CompactAll g c =
    let s = c.self.inside in
    let hs = c.order_all.new.groups in
    let settle = c.order_all.ensures.settle s.disk in
    let long : length hs ≡ s.groups.len = settle_length g.D.Disk g.met.D.Disk.told g.met.D.Disk.up_to_now g.B.Based.base g.B.Founded.sound g.B.Founded.premise g.B.Founded.began s.disk s.catalog s.standing s.trail s.late s.closed c.in_default.is c.deref_mut.result.now hs settle ∙ c.deref_mut.ensures.len in
    let kept = all_settled g.D.Disk g.met.D.Disk.told g.met.D.Disk.up_to_now g.B.Based.base g.B.Founded.sound g.B.Founded.premise g.B.Founded.began s.disk s.catalog s.standing s.trail s.late s.closed c.in_default.is s.groups.items hs c.self.invariant.0
    (subst (λ (gs : List Group). AllSettle g.D.Disk s.disk gs hs) c.deref_mut.ensures.value settle) in (
      subst (λ (gs : List Group). IsKept g.D.Disk g.B.Based.base g.B.Founded.sound g.B.Founded.premise g.B.Founded.began s.disk s.catalog s.standing gs s.trail s.late s.closed) (sym (with_items_is s.groups hs long)) kept,
      c.self.invariant.1,
    )

pub returns-in-FlushAll-clause-ordered : goal.returns-in-FlushAll-clause-ordered
returns-in-FlushAll-clause-ordered g c =
    let s = c.self.inside in
    let hs = c.order_all.new.groups in
    let long : length hs ≡ s.groups.len = settle_length g.D.Disk g.met.D.Disk.told g.met.D.Disk.up_to_now g.B.Based.base g.B.Founded.sound g.B.Founded.premise g.B.Founded.began s.disk s.catalog s.standing s.trail s.late s.closed c.in_default.is c.deref_mut.result.now hs (c.order_all.ensures.settle s.disk) ∙ c.deref_mut.ensures.len in
    rw c.in-FlushAll.is (subst AreOrdered (sym (with_items_is s.groups hs long)) c.order_all.ensures.ordered)

pub returns-in-CompactAll-clause-ordered : goal.returns-in-CompactAll-clause-ordered
returns-in-CompactAll-clause-ordered g c =
    let s = c.self.inside in
    let hs = c.order_all.new.groups in
    let long : length hs ≡ s.groups.len = settle_length g.D.Disk g.met.D.Disk.told g.met.D.Disk.up_to_now g.B.Based.base g.B.Founded.sound g.B.Founded.premise g.B.Founded.began s.disk s.catalog s.standing s.trail s.late s.closed c.in_default.is c.deref_mut.result.now hs (c.order_all.ensures.settle s.disk) ∙ c.deref_mut.ensures.len in
    rw c.in-CompactAll.is (subst AreOrdered (sym (with_items_is s.groups hs long)) c.order_all.ensures.ordered, (subst (AllByRecursion IsWantedTable) (sym (with_items_is s.groups hs long)) (c.order_all.ensures.wanted c.in-CompactAll.is), subst (λ (gs : List Group). AllByRecursion (HasRisen s.lookback) (take 0 gs)) (sym (with_items_is s.groups hs long)) (none_taken (HasRisen s.lookback) hs)))

pub returns-in-FlushAll-clause-ok : goal.returns-in-FlushAll-clause-ok
returns-in-FlushAll-clause-ok g c =
    let s = c.self.inside in
    let b = g.B.Based.base in
    let told = c.self.invariant.0.told in
    let v : Shown = shown_of s.seat s.trail.entries s.late s.closed s.groups.items s.lookback s.raising (g.D.Disk.calls s.disk) (g.D.Disk.faults s.disk) in
    subst (λ (w : Shown). DidOrder (known_by b g.B.Based.damaged w) (known_by b g.B.Based.damaged v) tt) c.self.view_is (did_order (known_by b g.B.Based.damaged v) told.legal (told.closing ∙ c.in_default.is))

pub returns-in-CompactAll-clause-ok : goal.returns-in-CompactAll-clause-ok
returns-in-CompactAll-clause-ok g c =
    let s = c.self.inside in
    let b = g.B.Based.base in
    let told = c.self.invariant.0.told in
    let v : Shown = shown_of s.seat s.trail.entries s.late s.closed s.groups.items s.lookback s.raising (g.D.Disk.calls s.disk) (g.D.Disk.faults s.disk) in
    subst (λ (w : Shown). DidOrder (known_by b g.B.Based.damaged w) (known_by b g.B.Based.damaged v) tt) c.self.view_is (did_order (known_by b g.B.Based.damaged v) told.legal (told.closing ∙ c.in_default.is))

-- ---- the calls of the disk

pub returns-in-FlushAll-clause-counts : goal.returns-in-FlushAll-clause-counts
returns-in-FlushAll-clause-counts g c = none_by c.self.view_is refl refl

pub returns-in-CompactAll-clause-counts : goal.returns-in-CompactAll-clause-counts
returns-in-CompactAll-clause-counts g c = none_by c.self.view_is refl refl
