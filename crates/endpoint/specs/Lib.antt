pub mod StepMade
