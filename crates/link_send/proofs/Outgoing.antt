-- An ASDU to send: what its check shows, and what the link answers. Assumes nothing.
use Prim.Native.Nat.{ℕ, ◌≤◌}
use mathlib.Core.Path.{◌≡◌, refl, sym, subst, ◌∙◌}
use mathlib.Core.List.{List}
use lib.ListN.{length}
use Rattle.std.specs.Prelude.{Result, Ok, Err}
use Rattle.elements.specs.Refusals.{number}
use Rattle.elements.specs.declared.refusals.Refusal.{Refusal}
use Rattle.elements.specs.declared.refusals.Refusal.TheVariants.{NotPlainForm}
use Rattle.asdu.specs.Plain.{plain_answer}
use Rattle.asdu.specs.declared.Form.{Form}
use Rattle.asdu.specs.declared.Form.TheVariants.{Plain, Reserved}
use Rattle.asdu.proofs.Passed.{plain_sized}
use Rattle.link_state.specs.declared.State.{State}
use Rattle.link.specs.declared.answers.Step.{Step}
use Rattle.link.specs.Events.{refusing, send_by, on_send}
use Rattle.link.specs.Answering.{DoesSend, refused_step}
use Rattle.link_steps.proofs.Made.{answers_refusing}

pub refuses : (k : Refusal) (s : State) (ts ps out : List ℕ) {r : Step} → r ≡ refused_step s k → DoesSend (refusing (number k) s ts ps) out r ts ps out
unfolding refusing
refuses k s ts ps out e = record { does = record { answers = answers_refusing k s ts ps out e; ring = refl }; pool = refl }

module _ (asdu : List ℕ) {a : Result Form Refusal} (read : a ≡ plain_answer asdu) where
  pub plain_small : a ≡ Ok Plain → length asdu ≤ 249
  plain_small is = (plain_sized asdu (sym read ∙ is)).1

  module _ (s : State) (ts ps out : List ℕ) (now : ℕ) {r : Step} {ts₁ ps₁ out₁ : List ℕ} where
    -- what is answered to the check is answered to the ASDU
    pub send_answered : {b : Result Form Refusal} → a ≡ b → DoesSend (send_by b asdu s ts ps now) out r ts₁ ps₁ out₁ → DoesSend (on_send asdu s ts ps now) out r ts₁ ps₁ out₁
    unfolding on_send
    send_answered is h = subst (λ (x : Result Form Refusal). DoesSend (send_by x asdu s ts ps now) out r ts₁ ps₁ out₁) (sym is ∙ read) h

  module _ (s : State) (ts ps out : List ℕ) (now : ℕ) {r : Step} where
    pub send_reserved : a ≡ Ok Reserved → r ≡ refused_step s NotPlainForm → DoesSend (on_send asdu s ts ps now) out r ts ps out
    unfolding send_by
    send_reserved is e = send_answered s ts ps out now is (refuses NotPlainForm s ts ps out e)

    pub send_refused : {x : Refusal} → a ≡ Err x → r ≡ refused_step s x → DoesSend (on_send asdu s ts ps now) out r ts ps out
    unfolding send_by
    send_refused {x} is e = send_answered s ts ps out now is (refuses x s ts ps out e)
