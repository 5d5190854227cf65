-- Opening starts data transfer: all counts 0, t3 set, other timers unset. It refuses 19, then 22.
use Rattle.std.specs.Prelude.{ℕ, ◌+◌, false, Option, None, Some, Ok, Err, eqb, ltb, replicate}
use Rattle.laws.specs.Choice.{pick}
use Rattle.elements.specs.Refusals.{refusal, outside_limits, clock_too_late}
use Rattle.elements.specs.declared.refusals.Refusal.{Refusal}
use Rattle.link_state.specs.Limits.{sound_settings}
use Rattle.link_state.specs.declared.Settings.{Settings}
use Rattle.link_state.specs.declared.Link.{Link}
use Rattle.link_state.specs.declared.opening.OpenedLink.{OpenedLink}

-- a deadline that is not set, and one that is due from a moment on
abbrev pub unset : Option ℕ
unset = None

abbrev pub set_for : ℕ → Option ℕ
set_for at = Some at

-- nothing outstanding, waiting or received
unfoldable pub fresh_link : Settings → Option ℕ → ℕ → Link
fresh_link settings t3 clock =
    record {
      times = replicate 32 0;
      state = record {
        queue = record { lengths = replicate 16 0; place = 0; count = 0 };
        settings = settings;
        window = record { first = 0; held = 0; next = record { 0 = 0 } };
        receive = record { next = record { 0 = 0 }; unconfirmed = 0 };
        timers = record { t1u = unset; t2 = unset; t3 = t3; tests = 0 };
        status = record { closed = false; reason = 0 };
        clock = clock;
      };
    }

-- all 0, clear and unset
unfoldable pub blank_link : Link
blank_link = fresh_link (record { k = 0; w = 0; p = 0; t1 = 0; t2 = 0; t3 = 0 }) unset 0

-- 19, then 22
unfoldable pub open_refusal : Settings → ℕ → ℕ
open_refusal s now = pick (sound_settings s) (pick (ltb 281474976710655 now) clock_too_late 0) outside_limits

-- beside a refusal the link is blank
unfoldable pub refused_opening : Refusal → OpenedLink
refused_opening r = record { link = blank_link; answer = Err r }

unfoldable pub opened : Settings → ℕ → OpenedLink
opened s now =
    pick (eqb (open_refusal s now) 0)
    (record { link = fresh_link s (set_for (now + s.t3)) now; answer = Ok tt })
    (refused_opening (refusal (open_refusal s now)))
