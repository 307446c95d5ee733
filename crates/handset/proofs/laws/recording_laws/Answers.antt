use Rattle.handset.proofs.RecordingLaws.{made_are_recordings, recordings_are_one, recordings_are_read}
use Rattle.handset.proofs.laws.recording_laws.Goals as goal

pub returns-clause-one : goal.returns-clause-one
returns-clause-one c = recordings_are_one

pub returns-clause-read : goal.returns-clause-read
returns-clause-read c = recordings_are_read

pub returns-clause-made : goal.returns-clause-made
returns-clause-made c = made_are_recordings
