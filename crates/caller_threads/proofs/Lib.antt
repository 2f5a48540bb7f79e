pub mod CallersLeft
pub mod NumberedWorkers
pub mod RunsEnded
pub mod WorkersSent
