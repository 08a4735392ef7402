-- What a server keeps through its steps.
use Rattle.std.proofs.Common.{◌≡◌, ◌<◌, ◌≤◌, ◌⊎◌, ◌+◌, inl, inr, ℕ, true, false, Option, Some, None, List, [], ◌∷◌, ◌++◌, refl, sym, ap, subst, ◌∙◌, arith, append_assoc}
use Rattle.std.specs.Prelude.{IsTrue}
use Rattle.std.specs.List.{AllByRecursion}
use Rattle.std.proofs.lemmas.Bool.{cases_Bool}
use Rattle.std.proofs.lemmas.List.{append-nil}
use Rattle.px_outside.specs.Disk.{Image, IsLeftBy, StaysBy}
use Rattle.px_outside.specs.Recovery.{next_lasting}
use Rattle.px_outside.specs.declared.disk.Disk.{Ghosts}
use Rattle.px_outside.proofs.Parts.{all_now}
use Rattle.px_outside.proofs.Recovery.{all_join, all_within, note_lasts, opened_lasts, stays_lasts, step_lasts}
use Rattle.px_trail.specs.declared.entry.Act.{Act}
use Rattle.px_trail.specs.declared.entry.Act.TheVariants.{Shut}
use Rattle.px_trail.specs.declared.entry.Entry.{Entry}
use Rattle.px_trail.specs.Lasting.{lasting, lasts_by}
use Rattle.px_trail.specs.Legal.{Follows, IsLegal, MayCome, is_after_shut}
use Rattle.px_trail.specs.Trail.{Base, calls_from, closing_call, closing_from, closing_step}
use Rattle.px_trail.proofs.Growth.{closing-snoc, legal-none, legal-snoc}
use Rattle.px_recovery.specs.Folder.{IsFileOfPart, IsKeptPart, PartStands, part_of}
use Rattle.px_recovery.specs.Stands.{Lasts, StandsAfter, entry_calls}
use Rattle.px_recovery.specs.Kept.{FolderGoesOn, IsLate, IsServer, Parts}
use Rattle.px_recovery.proofs.Notes.{IsIdle, after_shut_idle, shut_idle, stands_late, stands_quiet, tells_itself}

next_here : (more : List Entry) (e : Entry) → lasting e ≡ true → next_lasting lasting (e ∷ more) ≡ Some e
unfolding next_lasting
next_here more e lasts = rw lasts refl

next_past : (x : Entry) (more : List Entry) (e : Entry) → lasting x ≡ false → lasting e ≡ true → next_lasting lasting (x ∷ e ∷ more) ≡ Some e
unfolding next_lasting
next_past x more e quiet lasts = rw (quiet, lasts) refl

-- the newest entry came at most as late as the disk's calls
pub newest_early : (n c : ℕ) (es : List Entry) → c ≤ n → AllByRecursion (λ (e : Entry). e.calls ≤ n) es → calls_from c es ≤ n
unfolding calls_from
newest_early n c [] le all = le
newest_early n c (e ∷ es) le all = newest_early n e.calls es all.0 all.1

some_closed : (o : Option ℕ) → (o ≡ None → ⊥) → (act : Act) → closing_step o act ≡ o
some_closed None not act = absurd (not refl)
some_closed (Some c) not act = refl

module _ {D : Type 0} (d : Ghosts D) (told : (x : D) (moment file : ℕ) (bytes : List ℕ) → d.left x moment file bytes → IsTrue d.tells)
    (up_to_now : (x : D) (moment file : ℕ) (bytes : List ℕ) → d.left x moment file bytes → moment ≤ d.calls x) (b : Base) (premise : Type 0) (Has : Parts D) where
  -- the disk that a server goes on from stands for the trail, whatever a stop leaves now
  pub goes_stand : (disk : D) (es : List Entry) → FolderGoesOn d b Has disk es → (moment : ℕ) (image : Image) → d.calls disk ≤ moment → IsLeftBy d.left disk moment image → StandsAfter b es image
  goes_stand disk es goes moment image since is =
      let f = goes.folder in
      record {
        folder = f;
        stands = record {
          parts = all_now d IsFileOfPart PartStands up_to_now (IsKeptPart f.standing) (part_of f) disk goes.stands.parts moment image since is;
          fresh = λ file own.
              let up = up_to_now disk moment file (image file) (is file) in
              let same : moment ≡ d.calls disk = omega arith in
              goes.stands.fresh.on_disk file own (image file) (subst (λ (m : ℕ). d.left disk m file (image file)) same (is file)) ∙ goes.stands.fresh.empty file own;
          unmade = goes.stands.unmade;
        };
        told = es;
        as_told = tells_itself b es;
        groups = goes.groups;
        explains = goes.explains;
      }

  -- ---- opening, and reads

  pub opened_server : (old new : D) → (premise → d.calls old ≡ 0) → StaysBy d.calls d.left old new → (premise → (image : Image) → IsLeftBy d.left old (d.calls old) image → StandsAfter b [] image)
      → (premise → IsTrue d.tells → FolderGoesOn d b Has new []) → IsServer d b premise Has new [] None None
  unfolding closing_from
  opened_server old new fresh quiet stood goes = record {
    early = tt;
    lasts = λ given. opened_lasts entry_calls lasting (StandsAfter b) d old new (fresh given) quiet (stood given);
    legal = λ given tells. legal-none b;
    goes_on = λ running given tells. goes given tells;
    unlate = λ running. refl;
    closing = refl;
    late_is = λ u is. absurd cc;
  }

  module _ (old : D) (es : List Entry) (late : Option Entry) (closed : Option ℕ) (keeps : IsServer d b premise Has old es late closed) where
    pub read_server : (new : D) → StaysBy d.calls d.left old new → (premise → IsTrue d.tells → FolderGoesOn d b Has old es → FolderGoesOn d b Has new es) → IsServer d b premise Has new es late closed
    read_server new quiet goes = record {
      early = all_within entry_calls (d.calls old) (d.calls new) es quiet.later keeps.early;
      lasts = λ given. stays_lasts entry_calls lasting (StandsAfter b) d es late old new (keeps.lasts given) quiet keeps.early;
      legal = keeps.legal;
      goes_on = λ running given tells. goes given tells (keeps.goes_on running given tells);
      unlate = keeps.unlate;
      closing = keeps.closing;
      late_is = keeps.late_is;
    }

    -- ---- an entry alone

    module _ (e : Entry) (at : e.calls ≡ d.calls old) (quiet : lasting e ≡ false) (may : premise → IsTrue d.tells → MayCome b es e) (unshut : closing_step closed e.act ≡ closed) where
      noted_late : (u : Entry) → late ≡ Some u → premise → IsTrue d.tells → IsIdle e.act
      noted_late u is given tells = after_shut_idle e.act (elim (cases_Bool (is_after_shut e.act)) [
        | inl may_come ↦ may_come
        | inr comes_not ↦ absurd (
            let open_ : closed ≡ None = sym keeps.closing ∙ (may given tells).shut comes_not in
            let none : None ≡ Some u = sym (keeps.unlate open_) ∙ is in
            cc)
      ])

      note_is : (u : Entry) → IsLate b es u → IsLate b (es ++ e ∷ []) u
      note_is u l = record {
        before = l.before;
        shut = l.shut;
        after = l.after ++ e ∷ [];
        splits = ap (λ (x : List Entry). x ++ e ∷ []) l.splits ∙ append_assoc l.before (l.shut ∷ l.after) (e ∷ []);
        legal = l.legal;
      }

      pub noted_server : (closed ≡ None → premise → IsTrue d.tells → FolderGoesOn d b Has old es → FolderGoesOn d b Has old (es ++ e ∷ [])) → IsServer d b premise Has old (es ++ e ∷ []) late closed
      noted_server goes = record {
        early = all_join (λ (x : Entry). x.calls ≤ d.calls old) es (e ∷ []) keeps.early (omega arith, tt);
        lasts = λ given moment image is.
            let tells = told old moment 0 (image 0) (is 0) in
            note_lasts entry_calls lasting (StandsAfter b) d es e late old (keeps.lasts given) up_to_now keeps.early at quiet
            (λ i stands. stands_quiet b es e i (may given tells) quiet stands)
            (λ u i u-is stands. stands_late b es e u (noted_late u u-is given tells) i stands) moment image is;
        legal = λ given tells. legal-snoc b es e (keeps.legal given tells) (may given tells);
        goes_on = λ running given tells. goes running given tells (keeps.goes_on running given tells);
        unlate = keeps.unlate;
        closing = closing-snoc es e ∙ (ap (λ (o : Option ℕ). closing_step o e.act) keeps.closing ∙ unshut);
        late_is = λ u is given tells. note_is u (keeps.late_is u is given tells);
      }

    -- ---- calls that write

    module _ (running : closed ≡ None) (new : D) (later : d.calls old ≤ d.calls new)
        (past : premise → IsTrue d.tells → (moment : ℕ) (image : Image) → moment < d.calls old → IsLeftBy d.left new moment image → IsLeftBy d.left old moment image) where
      goes_now : premise → IsTrue d.tells → FolderGoesOn d b Has old es
      goes_now given tells = keeps.goes_on running given tells

      lasts_now : premise → Lasts d b es None old
      lasts_now given = subst (λ (o : Option Entry). Lasts d b es o old) (keeps.unlate running) (keeps.lasts given)

      none_closed : closing_call es ≡ None
      none_closed = keeps.closing ∙ running

      past_now : premise → (moment : ℕ) (image : Image) → moment < d.calls old → IsLeftBy d.left new moment image → IsLeftBy d.left old moment image
      past_now given moment image before is = past given (told new moment 0 (image 0) (is 0)) moment image before is

      early_now : (e : Entry) → e.calls ≡ d.calls new → AllByRecursion (λ (y : Entry). y.calls ≤ d.calls new) (es ++ e ∷ [])
      early_now e at = all_join (λ (y : Entry). y.calls ≤ d.calls new) es (e ∷ []) (all_within entry_calls (d.calls old) (d.calls new) es later keeps.early) (omega arith, tt)

      -- which leave what stands
      module _ (stay : FolderGoesOn d b Has old es → (moment : ℕ) (image : Image) → d.calls old ≤ moment → IsLeftBy d.left new moment image → StandsAfter b es image) where
        stay_now : premise → (moment : ℕ) (image : Image) → d.calls old ≤ moment → IsLeftBy d.left new moment image → StandsAfter b es image
        stay_now given moment image since is = stay (goes_now given (told new moment 0 (image 0) (is 0))) moment image since is

        stay_lasts : premise → Lasts d b es None new
        stay_lasts given =
            subst (λ (l : List Entry). Lasts d b l None new) (append-nil es)
            (step_lasts entry_calls lasting (StandsAfter b) d es [] None old new (lasts_now given) keeps.early (past_now given) later tt
            (λ moment image since under is. inl (stay_now given moment image since is))
            (λ moment image since is. inl (subst (λ (l : List Entry). StandsAfter b l image) (sym (append-nil es)) (stay_now given moment image (omega arith) is))))

        pub kept_server : (premise → IsTrue d.tells → FolderGoesOn d b Has old es → FolderGoesOn d b Has new es) → IsServer d b premise Has new es late closed
        kept_server goes = record {
          early = all_within entry_calls (d.calls old) (d.calls new) es later keeps.early;
          lasts = λ given. subst (λ (o : Option Entry). Lasts d b es o new) (sym (keeps.unlate running)) (stay_lasts given);
          legal = keeps.legal;
          goes_on = λ open_ given tells. goes given tells (goes_now given tells);
          unlate = keeps.unlate;
          closing = keeps.closing;
          late_is = keeps.late_is;
        }

      -- ---- one of which failed

      module _ (shut : Entry) (call : ℕ) (shut-is : shut.act ≡ Shut call) (shut_at : shut.calls ≡ d.calls new) where
        pub shut_quiet : lasting shut ≡ false
        shut_quiet = ap lasts_by shut-is

        shut_may : MayCome b es shut
        unfolding Follows
        shut_may = record {
          follows = subst (λ (a : Act). Follows b es shut.seat shut.calls a) (sym shut-is) tt;
          shut = λ past_shut. none_closed;
          calls = (let n = newest_early (d.calls old) 0 es (omega arith) keeps.early in omega arith);
        }

        shut_idles : IsIdle shut.act
        shut_idles = subst IsIdle (sym shut-is) (shut_idle call)

        shut_closes : closing_call (es ++ shut ∷ []) ≡ Some call
        shut_closes = closing-snoc es shut ∙ (ap (λ (o : Option ℕ). closing_step o shut.act) none_closed ∙ ap (closing_step None) shut-is)

        -- and nothing that lasts was under way
        pub stopped_server : (FolderGoesOn d b Has old es → (moment : ℕ) (image : Image) → d.calls old ≤ moment → IsLeftBy d.left new moment image → StandsAfter b es image) → IsServer d b premise Has new (es ++ shut ∷ []) None (Some call)
        stopped_server stay = record {
          early = early_now shut shut_at;
          lasts = λ given.
              let stands : (moment : ℕ) (image : Image) → d.calls old ≤ moment → IsLeftBy d.left new moment image → StandsAfter b es image = λ moment image since is. stay (goes_now given (told new moment 0 (image 0) (is 0))) moment image since is in
              step_lasts entry_calls lasting (StandsAfter b) d es (shut ∷ []) None old new (lasts_now given) keeps.early (past_now given) later (shut_at, tt)
              (λ moment image since under is. inl (stands moment image since is))
              (λ moment image since is. inl (stands_quiet b es shut image shut_may shut_quiet (stands moment image (omega arith) is)));
          legal = λ given tells. legal-snoc b es shut (keeps.legal given tells) shut_may;
          goes_on = λ none. absurd cc;
          unlate = λ none. refl;
          closing = shut_closes;
          late_is = λ u none. absurd cc;
        }

        -- and the entry u was under way
        pub late_server : d.calls new ≤ d.calls old + 4 → (u : Entry) → lasting u ≡ true → u.calls ≡ d.calls new → (premise → IsTrue d.tells → MayCome b es u)
            → (FolderGoesOn d b Has old es → (moment : ℕ) (image : Image) → d.calls old ≤ moment → IsLeftBy d.left new moment image → StandsAfter b es image ⊎ StandsAfter b (es ++ u ∷ []) image)
            → IsServer d b premise Has new (es ++ shut ∷ []) (Some u) (Some call)
        late_server four u lasts_it u-at u-may moves = record {
          early = early_now shut shut_at;
          lasts = λ given.
              let leaves : (moment : ℕ) (image : Image) → d.calls old ≤ moment → IsLeftBy d.left new moment image → StandsAfter b es image ⊎ StandsAfter b (es ++ u ∷ []) image = λ moment image since is. moves (goes_now given (told new moment 0 (image 0) (is 0))) moment image since is in
              step_lasts entry_calls lasting (StandsAfter b) d es (shut ∷ []) (Some u) old new (lasts_now given) keeps.early (past_now given) later (shut_at, (u-at, tt))
              (λ moment image since under is. elim (leaves moment image since is) [ inl stood ↦ inl stood | inr stood ↦ inr (u, next_past shut [] u shut_quiet lasts_it, omega arith, stood) ])
              (λ moment image since is. elim (leaves moment image (omega arith) is) [
                | inl stood ↦ inl (stands_quiet b es shut image shut_may shut_quiet stood)
                | inr stood ↦ inr (u, refl, lasts_it, stands_late b es shut u shut_idles image stood)
              ]);
          legal = λ given tells. legal-snoc b es shut (keeps.legal given tells) shut_may;
          goes_on = λ none. absurd cc;
          unlate = λ none. absurd cc;
          closing = shut_closes;
          late_is = λ x is given tells. record {
            before = es;
            shut = shut;
            after = [];
            splits = refl;
            legal = subst (λ (y : Entry). IsLegal b (es ++ y ∷ [])) (some_is u x is) (legal-snoc b es u (keeps.legal given tells) (u-may given tells));
          };
        }
          where
            some_is : (x y : Entry) → Some x ≡ Some y → x ≡ y
            some_is x y is = cc

      -- ---- of which an entry came that lasts

      module _ (four : d.calls new ≤ d.calls old + 4) (e : Entry) (lasts_it : lasting e ≡ true) (at : e.calls ≡ d.calls new) (may : premise → IsTrue d.tells → MayCome b es e) (unshut : closing_step None e.act ≡ None)
          (moves : FolderGoesOn d b Has old es → (moment : ℕ) (image : Image) → d.calls old ≤ moment → IsLeftBy d.left new moment image → StandsAfter b es image ⊎ StandsAfter b (es ++ e ∷ []) image)
          (goes : premise → IsTrue d.tells → FolderGoesOn d b Has old es → FolderGoesOn d b Has new (es ++ e ∷ [])) where
        step_stands : premise → Lasts d b (es ++ e ∷ []) None new
        step_stands given =
            step_lasts entry_calls lasting (StandsAfter b) d es (e ∷ []) None old new (lasts_now given) keeps.early (past_now given) later (at, tt)
            (λ moment image since under is. elim (moves (goes_now given (told new moment 0 (image 0) (is 0))) moment image since is) [ inl stood ↦ inl stood | inr stood ↦ inr (e, next_here [] e lasts_it, omega arith, stood) ])
            (λ moment image since is.
            let tells = told new moment 0 (image 0) (is 0) in
            inl (goes_stand new (es ++ e ∷ []) (goes given tells (goes_now given tells)) moment image since is))

        pub step_server : IsServer d b premise Has new (es ++ e ∷ []) late closed
        step_server = record {
          early = early_now e at;
          lasts = λ given. subst (λ (o : Option Entry). Lasts d b (es ++ e ∷ []) o new) (sym (keeps.unlate running)) (step_stands given);
          legal = λ given tells. legal-snoc b es e (keeps.legal given tells) (may given tells);
          goes_on = λ open_ given tells. goes given tells (goes_now given tells);
          unlate = keeps.unlate;
          closing = closing-snoc es e ∙ (ap (λ (o : Option ℕ). closing_step o e.act) none_closed ∙ (unshut ∙ sym running));
          late_is = λ u is. absurd (let none : None ≡ Some u = sym (keeps.unlate running) ∙ is in cc);
        }
