use Rattle.std.proofs.Common.{rules, ◌≡◌, ◌∙◌, ℕ, ◌-◌, List, [], ◌∷◌, ◌++◌, Option, sym, ap, lit<}
use Rattle.std.specs.Option.{option_map, unwrap_or}
use Rattle.px_arguments.specs.Arguments.{sessions_from}
use Rattle.px_arguments.proofs.Lists.{kept_more, last_named, named_more, unnamed}
use Rattle.px_arguments.proofs.schedule.sessions_listed.Goals as goal

pub returns-in-None : goal.returns-in-None
returns-in-None c =
    let none = unnamed c.names.most c.names.left.now c.in-Some.name.now c.in-Some.rest.now (c.in-Some.ensures.byte (lit< tt) (λ w o h. h)) (sym c.session_among.ensures ∙ c.in-None.is) in
    c.new.ensures.items ∙ sym (ap (λ (o : Option (List ℕ)). unwrap_or o []) (c.names.invariant.1 ∙ ap (option_map (λ ns. c.names.sessions.items ++ ns)) none))

pub names-preserved : goal.names-preserved
names-preserved c =
    let n = c.in-Some-session_among.session in
    let items = c.names.sessions.items in
    let rest = sessions_from (c.names.most - 1) [] c.in-Some.rest.now in
    let more = named_more c.names.most n c.names.left.now c.in-Some.name.now c.in-Some.rest.now (c.in-Some.ensures.byte (lit< tt) (λ w o h. h)) (sym c.session_among.ensures ∙ c.in-Some-session_among.is) in
    let pushed : c.push.new.self.items ≡ items ++ (n ∷ []) = c.in_ok-push-in-Some-session_among.ensures.items in
    (search rules, c.names.invariant.1 ∙ (ap (option_map (λ ns. items ++ ns)) more ∙ (kept_more items n rest ∙ ap (λ (l : List ℕ). option_map (λ ns. l ++ ns) rest) (sym pushed))))

pub returns-in_ok-push-in-Some-session_among-2 : goal.returns-in_ok-push-in-Some-session_among-2
returns-in_ok-push-in-Some-session_among-2 c =
    let n = c.in-Some-session_among-2.session in
    let items = c.names.sessions.items in
    let last = last_named c.names.left.now c.names.most (c.in_default.ensures.byte (lit< tt) (λ w o h. h)) ∙ ap (option_map (λ (m : ℕ). m ∷ [])) (sym c.session_among-2.ensures ∙ c.in-Some-session_among-2.is) in
    let pushed : c.push-in-Some-session_among-2.new.self.items ≡ items ++ (n ∷ []) = c.in_ok-push-in-Some-session_among-2.ensures.items in
    pushed ∙ sym (ap (λ (o : Option (List ℕ)). unwrap_or o []) (c.names.invariant.1 ∙ ap (option_map (λ ns. items ++ ns)) last))

pub returns-in-None-session_among : goal.returns-in-None-session_among
returns-in-None-session_among c =
    let last = last_named c.names.left.now c.names.most (c.in_default.ensures.byte (lit< tt) (λ w o h. h)) ∙ ap (option_map (λ (m : ℕ). m ∷ [])) (sym c.session_among-2.ensures ∙ c.in-None-session_among.is) in
    c.new-in-None-session_among.ensures.items ∙ sym (ap (λ (o : Option (List ℕ)). unwrap_or o []) (c.names.invariant.1 ∙ ap (option_map (λ ns. c.names.sessions.items ++ ns)) last))
