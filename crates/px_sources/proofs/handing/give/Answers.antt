use Rattle.std.proofs.Common.{◌≡◌, ℕ, ◌+◌, ◌<◌, ◌≤◌, ◌++◌, ◌∷◌, [], Bool, true, false, cond, List, length, Ok, Err, refl, sym, ap, subst, ◌∙◌, arith, inl, inr, take}
use Rattle.std.proofs.lemmas.Bool.{cases_eq}
use Rattle.std.proofs.lemmas.List.{append-nil}
use Rattle.px_outside.proofs.Moments.{stays_then}
use Rattle.px_cells.specs.CellData.{CellData}
use Rattle.px_merge.specs.Merged.{joined}
use Rattle.px_merge.specs.Settle.{settle}
use Rattle.px_file.proofs.Walking.{rose_from, stays_none}
use Rattle.px_sources.specs.declared.fault.GiveFault.TheVariants.{Damaged, ReadFault}
use Rattle.px_sources.specs.Giving.{begins_row, rows_before}
use Rattle.px_sources.proofs.Given.{looked_most, row_step, rows_rise}
use Rattle.px_sources.proofs.Turns.{given_more, given_none, most_more}
use Rattle.px_sources.proofs.handing.give.Goals as goal

pub turns-init : goal.turns-init
turns-init g c = record {
  given = λ lists all. (
    0,
    (
      given_none g.D.Disk c.args.sources.now c.args.disk.now c.none-last.result lists c.args.looked.now all c.none-last.ensures (omega arith),
      λ before held. (subst (g.T.CellTaker.has_taken c.args.taker.now) (sym (append-nil before)) held, λ i lt. absurd (omega arith)),
    ),
  );
  same = refl;
  seen = refl;
  quiet = stays_none g.D.Disk 0 g.met.D.Disk.up_to_now c.args.disk.now;
  faults = omega arith;
  least = omega arith;
}

pub turns-preserved : goal.turns-preserved
turns-preserved g c =
    let more = c.in-Ok-More.is ∙ ap Ok c.in-Ok-More.field-0-is in
    record {
      given = λ lists all.
          let was = c.turns.invariant.given lists all in
          let has = was.1.0 in
          let moved = c.give_next.ensures.more (settle (joined lists)) was.0 has.lists has.give has.rest has.known more in (
            was.0 + 1,
            (
              given_more g.D.Disk c.turns.sources c.give_next.new.sources c.turns.disk c.give_next.new.disk c.turns.last c.give_next.new.last (settle (joined lists)) was.0 c.args.looked.now c.turns.looked c.give_next.new.looked has moved,
              λ before held.
                  let w = was.1.1 before held in
                  let h = c.give_next.ensures.handed (settle (joined lists)) was.0 has.lists before has.give has.rest has.known w.0 more in (
                    h.0,
                    λ i lt begins. elim (cases_eq i was.0) [
                      | inl e ↦
                          (let here : begins_row (settle (joined lists)) was.0 ≡ true = ap (begins_row (settle (joined lists))) (sym e) ∙ begins in
                          ap (λ (k : ℕ). g.T.CellTaker.wants c.args.taker.now (before ++ take k (settle (joined lists)))) e
                          ∙ ap (λ (f : List CellData → Bool). f (before ++ take was.0 (settle (joined lists)))) (sym c.turns.invariant.same) ∙ h.1 here)
                      | inr e ↦ w.1 i (omega arith) begins
                    ],
                  ),
            ),
          );
      same = c.give_next.ensures.same ∙ c.turns.invariant.same;
      seen = c.give_next.ensures.seen ∙ c.turns.invariant.seen;
      quiet = stays_then g.D.Disk.calls g.D.Disk.left c.args.disk.now c.turns.disk c.give_next.new.disk c.turns.invariant.quiet c.give_next.ensures.quiet;
      faults = omega (arith, c.turns.invariant.faults, c.give_next.ensures.faults);
      least = omega (arith, c.turns.invariant.least, c.give_next.ensures.least);
    }

pub returns-in-Ok-Over-clause-given : goal.returns-in-Ok-Over-clause-given
returns-in-Ok-Over-clause-given g c = λ lists before all held.
    let over = c.in-Ok-Over.is ∙ ap Ok c.in-Ok-Over.field-0-is in
    let was = c.turns.invariant.given lists all in
    let has = was.1.0 in
    let w = was.1.1 before held in
    let o = c.give_next.ensures.over (settle (joined lists)) was.0 has.lists before has.give has.rest has.known has.within w.0 over in (
      was.0,
      record {
        within = has.within;
        asked = w.1;
        ended = elim o.1 [
          | inl e ↦ inl e
          | inr z ↦ inr (z.0, z.1, ap (λ (f : List CellData → Bool). f (before ++ take was.0 (settle (joined lists)))) (sym c.turns.invariant.same) ∙ z.2)
        ];
      },
      o.0,
      c.give_next.ensures.stopped over ∙ has.counted,
    )

pub returns-in-Ok-Over-clause-most : goal.returns-in-Ok-Over-clause-most
returns-in-Ok-Over-clause-most g c = λ lists all.
    let was = c.turns.invariant.given lists all in
    let has = was.1.0 in
    let cells = settle (joined lists) in
    looked_most c.args.looked.now (rows_before cells was.0) (rows_before cells (length cells)) c.give_next.new.looked (c.give_next.ensures.stopped (c.in-Ok-Over.is ∙ ap Ok c.in-Ok-Over.field-0-is) ∙ has.counted) (rows_rise cells was.0 (length cells) has.within)

pub returns-in-Ok-Over-clause-quiet : goal.returns-in-Ok-Over-clause-quiet
returns-in-Ok-Over-clause-quiet g c = stays_then g.D.Disk.calls g.D.Disk.left c.args.disk.now c.turns.disk c.give_next.new.disk c.turns.invariant.quiet c.give_next.ensures.quiet

pub returns-in-Err-clause-most : goal.returns-in-Err-clause-most
returns-in-Err-clause-most g c = λ lists all.
    let was = c.turns.invariant.given lists all in
    let has = was.1.0 in
    let cells = settle (joined lists) in
    elim (c.give_next.ensures.most cells was.0 has.lists has.give has.rest has.known) [
      | inl same ↦ looked_most c.args.looked.now (rows_before cells was.0) (rows_before cells (length cells)) c.give_next.new.looked (same ∙ has.counted) (rows_rise cells was.0 (length cells) has.within)
      | inr z ↦ most_more c.args.looked.now (rows_before cells was.0) (cond (begins_row cells was.0) 1 0) (rows_before cells (length cells)) c.turns.looked c.give_next.new.looked has.counted z.1
          (subst (λ (k : ℕ). k ≤ rows_before cells (length cells)) (row_step cells was.0) (rows_rise cells (was.0 + 1) (length cells) (let lt = z.0 in omega arith)))
    ]

pub returns-in-Err-clause-sound : goal.returns-in-Err-clause-sound
returns-in-Err-clause-sound g c = λ lists at place all e.
    let was = c.turns.invariant.given lists all in
    let has = was.1.0 in
    let same : c.in-Err.fault ≡ Damaged at place = cc in
    c.in-Err.ensures.sound has.lists at place has.give (ap Err same)

pub returns-in-Err-clause-quiet : goal.returns-in-Err-clause-quiet
returns-in-Err-clause-quiet g c = stays_then g.D.Disk.calls g.D.Disk.left c.args.disk.now c.turns.disk c.give_next.new.disk c.turns.invariant.quiet c.give_next.ensures.quiet

pub returns-in-Err-clause-failed : goal.returns-in-Err-clause-failed
returns-in-Err-clause-failed g c = λ e.
    let same : c.in-Err.fault ≡ ReadFault = cc in
    rose_from g.D.Disk 0 c.args.disk.now c.turns.disk c.give_next.new.disk c.turns.invariant.faults (c.in-Err.ensures.failed (ap Err same))

pub returns-clause-most : goal.returns-clause-most
returns-clause-most g c = λ lists all.
    let was = c.turns.invariant.given lists all in
    let has = was.1.0 in
    let cells = settle (joined lists) in
    looked_most c.args.looked.now (rows_before cells was.0) (rows_before cells (length cells)) c.turns.looked has.counted (rows_rise cells was.0 (length cells) has.within)
