use Rattle.std.proofs.Common.{◌≡◌, ◌-◌, ◌++◌, ◌∷◌, [], ℕ, List, length, take, drop, slice_index_or, ap, ◌∙◌, arith, length-append, length-take-le}
use Rattle.std.specs.Int.{w32, to_be_bytes}
use Rattle.std.specs.List.{flat_map}
use Rattle.std.proofs.lemmas.Grind.{common_steps}
use Rattle.px_gatelog.specs.Format.{record_bytes}
use Rattle.px_gatelog.specs.Framed.{Framed}
use Rattle.px_gatelog.specs.inner.Frame.{framed}
use Rattle.px_gatelog.proofs.Frames.{body_is, kind_is, pushed_is, sealed_is}
use Rattle.px_gatelog.proofs.frame.Frame.push_all.Goals as goal

abbrev added : goal.After-set_head → List ℕ
added c = flat_map (λ p. p.now) c.args.pieces.now

buffer : (c : goal.After-set_head) → c.set_head.new.bytes.items ≡ record_bytes (record { kind = (framed c.self.inside).kind; body = (framed c.self.inside).body ++ added c }) ++ 0 ∷ []
buffer c =
    let f : Framed = framed c.self.inside in
    let old = c.self.inside.bytes.items in
    let was : old ≡ record_bytes (record { kind = f.kind; body = f.body }) ++ 0 ∷ [] = c.self.invariant.sealed in
    let kind : c.index-kind.result.now ≡ f.kind = c.index-kind.ensures ∙ ap (λ (l : List ℕ). slice_index_or l 0 c.index-kind.result.now) was in
    let end : c.len-end.result ≡ length old = grind (arith, c.len-end.ensures, common_steps) in
    let items : c.put_all.new.to.items ≡ take (length old - 1) old ++ added c = c.put_all.ensures.items ∙ ap (λ (l : List ℕ). l ++ added c) (c.truncate.ensures.items ∙ ap (λ (n : ℕ). take (n - 1) old) end) in
    let all : c.len.result ≡ length c.put_all.new.to.items = grind (arith, c.len.ensures, common_steps) in
    let size : c.len.result - 5 ≡ length (f.body ++ added c) = omega (arith, all, ap length items, ap length was, length-append f.body (0 ∷ []), length-append (take (length old - 1) old) (added c), length-take-le (length old - 1) old (omega arith), length-append f.body (added c)) in
    pushed_is f.kind f.body (added c) old c.set_head.new.bytes.items c.to_be_bytes-len.result was
    (c.to_be_bytes-len.ensures ∙ ap (to_be_bytes w32) size)
    (c.set_head.ensures.items ∙ ap (λ (k : ℕ). k ∷ c.to_be_bytes-len.result ++ drop 5 c.put.new.to.items) kind
    ∙ ap (λ (l : List ℕ). f.kind ∷ c.to_be_bytes-len.result ++ drop 5 l) (c.put.ensures.items ∙ ap (λ (l : List ℕ). l ++ 0 ∷ []) items))

pub invariant_of-self : goal.invariant_of-self
invariant_of-self c = sealed_is _ (framed c.self.inside).kind ((framed c.self.inside).body ++ added c) (buffer c) (omega (arith, c.requires.short, ap (λ (v : Framed). length v.body) c.self.view_is, length-append (framed c.self.inside).body (added c)))

pub returns-clause-pushed : goal.returns-clause-pushed
returns-clause-pushed c = (
  kind_is (framed c.self.inside).kind ((framed c.self.inside).body ++ added c) c.set_head.new.bytes.items (buffer c) ∙ ap (λ (v : Framed). v.kind) c.self.view_is,
  body_is (framed c.self.inside).kind ((framed c.self.inside).body ++ added c) c.set_head.new.bytes.items (buffer c) ∙ ap (λ (v : Framed). v.body ++ added c) c.self.view_is,
)
