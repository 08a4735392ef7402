use Rattle.px_looks.proofs.rows.look_rows.Goals as goal

pub look_next-requires-clause-admits : goal.look_next-requires-clause-admits
look_next-requires-clause-admits g c = λ k. (let p = c.requires.plain k in record { no_delete = p.no_delete; no_version = p.no_version })
