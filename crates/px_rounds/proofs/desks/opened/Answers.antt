use Rattle.std.proofs.Common.{rules, ◌≡◌, ◌∙◌, ℕ, ◌+◌, ◌<◌, [], ◌∷◌, Vec, length, drop, sym, ap, subst, ⊎_elim, arith, length-append}
use Rattle.std.specs.Global.{Global}
use Rattle.std.specs.Prelude.{slice_get}
use Rattle.px_lex.specs.declared.script.Piece.{Piece}
use Rattle.px_session.specs.declared.run.SessionRun.{SessionRun}
use Rattle.px_session.specs.declared.state.SessionState.{SessionState}
use Rattle.px_rounds.specs.inner.Desks.{IsFirst}
use Rattle.px_rounds.proofs.Lists.{drop_one, front_is, get_snoc, some_same}
use Rattle.px_rounds.proofs.desks.opened.Goals as goal

pub of-requires : goal.of-requires
of-requires c =
    let at = c.opening in
    let i = at.invariant in
    let some_left : 0 < length at.states.items = search rules in
    let some_left' : 0 < length at.all.items = subst (λ (n : ℕ). 0 < n) (sym i.sum') some_left in
    let n = length at.runs.items in
    let here = front_is c.args.all.items at.all.items n c.remove-pieces.result i.left' some_left' c.remove-pieces.ensures.value in
    record { placed = c.requires.placed n c.remove-pieces.result here }

pub opening-preserved : goal.opening-preserved
opening-preserved c =
    let at = c.opening in
    let i = at.invariant in
    let n = length at.runs.items in
    let some_left : 0 < length at.states.items = search rules in
    let some_left' : 0 < length at.all.items = subst (λ (n : ℕ). 0 < n) (sym i.sum') some_left in
    let pieces = c.remove-pieces.result in
    let st = c.remove-state.result in
    let run = c.of.result in
    let here = front_is c.args.states.items at.states.items n st i.left some_left c.remove-state.ensures.value in
    let here' = front_is c.args.all.items at.all.items n pieces i.left' some_left' c.remove-pieces.ensures.value in
    let items = c.push_reserved.ensures.items in
    let more : length c.push_reserved.new.self.items ≡ n + 1 = ap length items ∙ length-append at.runs.items (run ∷ []) in
    let less : length c.remove-state.new.self.items + 1 ≡ length at.states.items = omega (arith, c.remove-state.ensures.len, at.states.ok, c.remove-state.new.self.ok) in
    let less' : length c.remove-pieces.new.self.items + 1 ≡ length at.all.items = omega (arith, c.remove-pieces.ensures.len, at.all.ok, c.remove-pieces.new.self.ok) in
    record {
      left = c.remove-state.ensures.items ∙ (ap (drop 1) i.left ∙ (drop_one c.args.states.items n ∙ ap (λ k. drop k c.args.states.items) (sym more)));
      left' = c.remove-pieces.ensures.items ∙ (ap (drop 1) i.left' ∙ (drop_one c.args.all.items n ∙ ap (λ k. drop k c.args.all.items) (sym more)));
      sum = (let was = i.sum in omega arith);
      sum' = (let was = i.sum' in omega arith);
      session = (let was = i.session in omega arith);
      room = search rules;
      each = λ m s p r e f h. ⊎_elim
          (λ was. i.each m s p r e f was)
          (λ (q : (m ≡ n) × (run ≡ r)).
          let st_is : st ≡ s = some_same st s (sym here ∙ (ap (slice_get c.args.states.items) (sym q.0) ∙ e)) in
          let pieces_are : pieces ≡ p = some_same pieces p (sym here' ∙ (ap (slice_get c.args.all.items) (sym q.0) ∙ f)) in
          let number : at.session + 1 ≡ m + 1 = (let was = i.session in let same = q.0 in omega arith) in
          let first : IsFirst c.args.number c.args.from (at.session + 1) st pieces.items run = record { pieces_are = ap (λ v. v.items) c.of.ensures.pieces; session = c.of.ensures.named.0; round = c.of.ensures.named.1; starts = c.of.ensures.starts } in
          let F : ℕ × SessionState × Vec Piece Global × SessionRun → Type 0 = λ x. IsFirst c.args.number c.args.from x.0 x.1 x.2.items x.3 in
          subst F (λ j. (number j, st_is j, pieces_are j, q.1 j)) first)
          (get_snoc at.runs.items run r m (ap (λ l. slice_get l m) (sym items) ∙ h));
    }
