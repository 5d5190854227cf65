-- The promises of the ASDU level, of walking, of the frame level, of assembling and of the link, each together. Assumes nothing.
use Rattle.promises.specs.Asdus.{AsduLevel}
use Rattle.promises.specs.Walks.{Walks}
use Rattle.promises.specs.Frames.{FrameLevel}
use Rattle.promises.specs.Streams.{StreamLevel}
use Rattle.promises.specs.Demand3Runs.{Demand3Level}
use Rattle.promises.proofs.ReadBack.{reads_back}
use Rattle.promises.proofs.WriteAgain.{writes_again}
use Rattle.promises.proofs.Alike.{writes_alike}
use Rattle.promises.proofs.Tells.{tells}
use Rattle.promises.proofs.Accepts.{accepts}
use Rattle.promises.proofs.Answered.{answers}
use Rattle.promises.proofs.Walked.{walked}
use Rattle.promises.proofs.FrameBack.{frame_reads_back}
use Rattle.promises.proofs.FrameAgain.{frame_writes_again}
use Rattle.promises.proofs.FrameTells.{frame_tells}
use Rattle.promises.proofs.FrameAccepts.{frame_accepts}
use Rattle.promises.proofs.Starts.{starts}
use Rattle.promises.proofs.Cuts.{cuts, outcomes, one_outcome}
use Rattle.promises.proofs.CutFree.{cut_independent, topping_first, in_place}
use Rattle.promises.proofs.Parts.{hands_back, picks_frames, picks, tops_up}
use Rattle.promises.proofs.Demand3.{demand_3}
use Rattle.promises.proofs.Demand3Runs.{covers, goes_on, room_enough}
use Rattle.promises.proofs.Demand3Shown.{shows}
use Rattle.promises.proofs.Demand3Reach.{reaches}

pub asdu_level : AsduLevel
asdu_level = record { back = reads_back; again = writes_again; alike = writes_alike; tells = tells; accepts = accepts; answers = answers }

pub walking : Walks
walking = walked

pub frame_level : FrameLevel
frame_level = record { back = frame_reads_back; again = frame_writes_again; tells = frame_tells; accepts = frame_accepts }

pub stream_level : StreamLevel
stream_level = record {
  starts = starts;
  cuts = cuts;
  outcomes = outcomes;
  one_outcome = one_outcome;
  cut = cut_independent;
  topping = topping_first;
  uncopied = in_place;
  part = hands_back;
  picked = picks_frames;
  picks = picks;
  tops_up = tops_up;
}

pub demand_3_level : Demand3Level
demand_3_level = record { claims = demand_3; covers = covers; goes_on = goes_on; room = room_enough; shows = shows; reaches = reaches }
